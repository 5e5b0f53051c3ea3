-- The laws of this crate, file by file.
pub mod Parts
pub mod Hear
pub mod Finding
pub mod Steps
pub mod Runs
pub mod Memory
pub mod Payloads
pub mod Endings
pub mod Unique
