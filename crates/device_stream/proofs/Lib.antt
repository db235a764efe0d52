pub mod TakingLaws
pub mod HandLaws
pub mod CourseLaws
pub mod ListenLaws
pub mod AlikeLaws
