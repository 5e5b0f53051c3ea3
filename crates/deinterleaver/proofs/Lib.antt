-- The laws of this crate, file by file.
pub mod ScatterLaws
pub mod PlaceLaws
