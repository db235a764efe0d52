pub mod CrcLaws
pub mod PlaceLaws
pub mod PlaceTests
pub mod ScanLaws
pub mod ReaderLaws
pub mod StreamLaws
pub mod ByPlaces
