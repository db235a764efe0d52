pub mod CallLaws
pub mod MakeWords
pub mod PathLaws
pub mod SystemLaws
