-- The definitions of this crate, file by file.
pub mod Levels
pub mod Mapped
pub mod Bits
