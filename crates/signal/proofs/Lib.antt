-- The laws of this crate, file by file.
pub mod Bits
pub mod Registers
pub mod HtSigLaws
pub mod ReadFields
