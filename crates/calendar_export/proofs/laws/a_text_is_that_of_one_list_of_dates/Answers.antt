use Rattle.calendar_export.specs.declared.kind.Kind.TheVariants.{Dates}
use Rattle.calendar_export.proofs.CalendarLaws.{calendar_text_injective}
use Rattle.calendar_export.proofs.laws.a_text_is_that_of_one_list_of_dates.Goals as goal

pub returns : goal.returns
returns c source a b plain h k e = calendar_text_injective source Dates a b plain h k e
