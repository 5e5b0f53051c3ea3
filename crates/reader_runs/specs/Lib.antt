-- The definitions of this crate, file by file.
pub mod Run
pub mod Sent
