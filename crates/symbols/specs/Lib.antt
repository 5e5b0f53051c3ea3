-- The definitions of this crate, file by file.
pub mod Symbols
pub mod Worked
pub mod Statements
