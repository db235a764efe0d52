pub mod CardLaws
pub mod PartLaws
pub mod GrowthLaws
pub mod StoredLaws
