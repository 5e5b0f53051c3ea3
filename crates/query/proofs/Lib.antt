-- The laws of this crate, file by file.
pub mod QueryLaws
pub mod Refusals
pub mod Tied
