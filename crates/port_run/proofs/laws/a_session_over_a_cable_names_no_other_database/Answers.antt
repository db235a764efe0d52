use Rattle.port_run.proofs.NamesLaws.{names_touched}
use Rattle.port_run.proofs.laws.a_session_over_a_cable_names_no_other_database.Goals as goal

pub returns : goal.returns
returns c = names_touched
