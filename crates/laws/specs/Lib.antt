-- The definitions of this crate, file by file.
pub mod Test
pub mod Claim
pub mod Least
pub mod Filled
pub mod Firsts
pub mod Scattered
pub mod Refusals
pub mod Integers
pub mod Stretch
pub mod Bytes
