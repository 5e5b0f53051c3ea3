-- The definitions of this crate, file by file.
pub mod Assembled
pub mod Asked
