use Rattle.mirrors.proofs.ShownLaws.{records_told, slow_shown-is}
use Rattle.mirrors.proofs.slow_laws.whole_readings_show_the_records.Goals as goal

pub returns-clause-count : goal.returns-clause-count
returns-clause-count c = λ device handle base opened. records_told device handle base opened.proper opened.byte opened.stands opened.records

pub returns-clause-view : goal.returns-clause-view
returns-clause-view c = λ device handle base opened. slow_shown-is device handle base opened.proper opened.byte opened.stands opened.records
