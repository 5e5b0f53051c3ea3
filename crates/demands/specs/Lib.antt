-- The definitions of this crate, file by file.
pub mod Frames
pub mod Demand2
pub mod Retried
pub mod Demand3
pub mod Worked
