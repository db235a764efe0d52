use Rattle.cmd_status.proofs.PrintedNameLaws.{printed_name-injective, printed_name-printable}
use Rattle.run_promises.proofs.promises.no_two_names_are_printed_alike.Goals as goal

pub returns-clause-apart : goal.returns-clause-apart
returns-clause-apart c = printed_name-injective

pub returns-clause-printable : goal.returns-clause-printable
returns-clause-printable c = printed_name-printable
