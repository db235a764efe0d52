use Rattle.trace_page.proofs.PageLaws.{one-page}
use Rattle.trace_page.proofs.laws.a_page_is_of_one_trace.Goals as goal

pub returns : goal.returns
returns c = one-page
