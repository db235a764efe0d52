pub mod CivilLaws
pub mod DateLaws
pub mod NamedLaws
pub mod PlaceLaws
pub mod StemLaws
