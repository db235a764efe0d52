pub mod CalendarLaws
pub mod DateForms
pub mod DateGrowth
pub mod PartLaws
pub mod RuleLaws
pub mod TaskForms
pub mod ValueLaws
