use Rattle.dlp_args.proofs.CellLaws.{fields_take, fields_again, fields_written}
use Rattle.dlp_args.proofs.layout_laws.layouts_are_exact.Goals as goal

pub returns-clause-found : goal.returns-clause-found
returns-clause-found c = fields_take

pub returns-clause-only : goal.returns-clause-only
returns-clause-only c = fields_again

pub returns-clause-written : goal.returns-clause-written
returns-clause-written c = fields_written
