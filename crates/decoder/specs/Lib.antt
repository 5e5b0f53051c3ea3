-- The definitions of this crate, file by file.
pub mod Decoded
pub mod Asked
pub mod Statements
