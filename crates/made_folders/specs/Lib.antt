pub mod Drawn
pub mod Items
pub mod MadeMerges
pub mod Numbers
pub mod Sides
