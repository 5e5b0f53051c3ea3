-- The laws of this crate, file by file.
pub mod RowLaws
pub mod ListingLaws
