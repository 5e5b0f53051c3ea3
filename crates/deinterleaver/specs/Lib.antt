-- The definitions of this crate, file by file.
pub mod Deinterleaved
pub mod Asked
