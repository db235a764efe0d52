pub mod Components
pub mod DateProperties
pub mod Dates
pub mod Exports
pub mod Items
pub mod Moments
pub mod RuleValues
pub mod TaskProperties
