mod DataLaws
pub mod DeskLaws
pub mod HandLaws
pub mod LossLaws
pub mod MomentLaws
pub mod MoveLaws
pub mod QueueLaws
pub mod SaidLaws
mod SayLaws
pub mod StageLaws
mod StepLaws
pub mod TakeLaws
