-- The definitions of this crate, file by file.
pub mod Symbol
pub mod Asked
pub mod Shown
