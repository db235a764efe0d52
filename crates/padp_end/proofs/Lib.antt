pub mod SayingLaws
pub mod WaitingLaws
pub mod ArrivalLaws
pub mod TakingLaws
pub mod PartLaws
