pub mod FateLaws
pub mod LineLaws
pub mod ScriptLaws
pub mod SearchLaws
pub mod WordLaws
