-- The laws of this crate, file by file.
pub mod FrameBits
pub mod Calls
pub mod Reading
pub mod Demand2
pub mod Retried
pub mod Demand3
pub mod Worked
