-- The definitions of this crate, file by file.
pub mod CallRun
pub mod Statements
