pub mod AppLaws
pub mod AskLaws
pub mod EndLaws
pub mod FormLaws
pub mod Lists
pub mod RuleLaws
pub mod UseLaws
pub mod WalkLaws
