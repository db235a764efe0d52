use Rattle.mirrors.proofs.SayLaws.{fast_sayable}
use Rattle.mirrors.proofs.ViewLaws.{fast_reads-are, fast_shown-is}
use Rattle.mirrors.proofs.laws.fast_readings_show_the_records.Goals as goal

pub returns-clause-view : goal.returns-clause-view
returns-clause-view c = λ device handle base rows opened first. fast_shown-is device handle base rows opened.proper opened.byte opened.stands opened.records first

pub returns-clause-asks : goal.returns-clause-asks
returns-clause-asks c = λ device handle base rows opened first. fast_reads-are device handle base rows opened.proper opened.byte opened.stands opened.records first

pub returns-clause-fits : goal.returns-clause-fits
returns-clause-fits c = λ device handle base rows opened first. fast_sayable device handle base rows opened.proper opened.byte opened.stands opened.records first
