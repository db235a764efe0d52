use Rattle.std.proofs.Common.{ap, ◌∙◌}
use Rattle.pdb_values.specs.PalmDates.{read_text}
use Rattle.pdb_values.proofs.DateLaws.{form_of_read}
use Rattle.pdb_values.proofs.date.PalmDate.read_text.Goals as goal

pub returns-clause-form : goal.returns-clause-form
returns-clause-form c = form_of_read c.read_bytes.result c.args.text.now (c.read_bytes.ensures ∙ ap read_text c.as_bytes.ensures.value)
