-- The laws of this crate, file by file.
pub mod Framing
pub mod Counting
pub mod Plain
