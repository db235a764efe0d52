mod FitLaws
pub mod RequestLaws
