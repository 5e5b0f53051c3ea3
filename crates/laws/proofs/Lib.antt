-- The laws of this crate, file by file.
pub mod Filling
pub mod Firsts
pub mod Scattering
pub mod Radix
pub mod Xor
pub mod Search
pub mod Least
pub mod Refusing
pub mod Reflect
pub mod Integers
pub mod Stretches
