-- The definitions of this crate, file by file.
pub mod Accepted
pub mod Asked
