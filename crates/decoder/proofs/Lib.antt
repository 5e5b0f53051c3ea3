-- The laws of this crate, file by file.
pub mod EncoderLaws
pub mod ExtLaws
pub mod SymbolLaws
