-- The definitions of this crate, file by file.
pub mod Plan
pub mod Scrambler
pub mod DataBits
pub mod Encoder
pub mod Puncture
pub mod Parser
pub mod Interleaver
pub mod Labels
pub mod Decoder
pub mod Statements
pub mod Worked
