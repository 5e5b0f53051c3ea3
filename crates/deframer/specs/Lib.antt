-- The definitions of this crate, file by file.
pub mod Deframed
pub mod Statements
pub mod Asked
