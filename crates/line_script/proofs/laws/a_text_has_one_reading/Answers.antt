use Rattle.line_script.proofs.ScriptLaws.{one_reading}
use Rattle.line_script.proofs.laws.a_text_has_one_reading.Goals as goal

pub returns : goal.returns
returns c = one_reading
