pub mod CodeLaws
pub mod PageLaws
pub mod PlainLaws
pub mod SeenLaws
