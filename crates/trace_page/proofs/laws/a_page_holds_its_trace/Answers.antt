use Rattle.trace_page.proofs.PageLaws.{page-shows}
use Rattle.trace_page.proofs.laws.a_page_holds_its_trace.Goals as goal

pub returns : goal.returns
returns c = page-shows
