-- The definitions of this crate, file by file.
pub mod Points
pub mod Compared
pub mod Asked
pub mod Statements
