pub mod TextLaws
pub mod PieceLaws
pub mod CollectingLaws
pub mod SenderLaws
pub mod NeighbourLaws
pub mod ReceiverLaws
pub mod WaitingLaws
pub mod PartLaws
