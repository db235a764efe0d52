use Rattle.trace_page.proofs.PlainLaws.{words-plain}
use Rattle.trace_page.proofs.laws.pages_need_no_escape.Goals as goal

pub returns : goal.returns
returns c = words-plain
