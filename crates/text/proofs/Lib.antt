-- The laws of this crate, file by file.
pub mod Decimals
pub mod Pushing
pub mod Rows
