-- The laws of this crate, file by file.
pub mod Held
pub mod CallRuns
pub mod Closing
pub mod Unchanged
