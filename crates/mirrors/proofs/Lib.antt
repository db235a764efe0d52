pub mod AskLaws
pub mod CarryLaws
mod ChangedLaws
pub mod EntryLaws
mod FillLaws
mod LentLaws
mod ListingLaws
pub mod NewsLaws
mod NextLaws
pub mod OrderLaws
pub mod PartFollows
mod PlaceLaws
pub mod PlanLaws
mod ReadFollows
pub mod ReadLaws
mod RisingLaws
mod SayLaws
pub mod ShownLaws
mod SideLaws
pub mod SlowSayLaws
mod ToldLaws
pub mod ViewLaws
mod WholeLaws
mod WriteFollows
