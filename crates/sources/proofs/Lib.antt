-- The laws of this crate, file by file.
pub mod SourceLaws
pub mod TableLaws
