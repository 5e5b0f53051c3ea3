-- The laws of this crate, file by file.
pub mod Plans
pub mod Counts
pub mod ScramblerLaws
pub mod InputLaws
pub mod KeptLaws
pub mod Window
pub mod ParserLaws
pub mod InterleaverLaws
pub mod LabelPlaces
pub mod LabelLaws
pub mod History
pub mod Inverse
pub mod Dealing
pub mod Machine
pub mod DecodeLaws
pub mod DifferenceLaws
