-- The definitions of this crate, file by file.
pub mod Printing
pub mod Statements
