pub mod BoundLaws
pub mod ChangeLaws
pub mod FreshLaws
pub mod GivenLaws
pub mod KeptLaws
pub mod OneLaws
pub mod SettledLaws
pub mod StandLaws
