pub mod CalendarLaws
pub mod ExceptionLaws
pub mod FormLaws
pub mod RuleLaws
pub mod ShownLaws
pub mod WitnessLaws
