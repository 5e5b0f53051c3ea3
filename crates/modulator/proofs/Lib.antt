-- The laws of this crate, file by file.
pub mod RunningLaws
pub mod SymbolLaws
