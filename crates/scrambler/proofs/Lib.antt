-- The laws of this crate, file by file.
pub mod Jumps
