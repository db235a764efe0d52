pub mod CradleLaws
pub mod GivingLaws
pub mod Pieces
pub mod WayLaws
