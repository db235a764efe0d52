pub mod HexLaws
pub mod StemTextLaws
pub mod ValueLaws
pub mod LineLaws
pub mod PartedLaws
pub mod PartedLists
pub mod SlotLaws
pub mod InfoLaws
