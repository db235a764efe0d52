pub mod AddressLaws
pub mod CharacterLaws
