-- The definitions of this crate, file by file.
pub mod WholeFrame
pub mod Asked
pub mod Statements
