pub mod BuildLaws
pub mod CutLaws
pub mod ExportLaws
pub mod PartLaws
