-- The laws of this crate, file by file.
mod Reading
mod Writing
