use Rattle.front_laws.proofs.StayLaws.{leaves-each}
use Rattle.front_laws.proofs.laws.a_lost_database_costs_no_live_row.Goals as goal

pub returns : goal.returns
returns c = leaves-each
