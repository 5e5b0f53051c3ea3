-- The laws of this crate, file by file.
pub mod AnswerLaws
pub mod FrameLaws
pub mod LoopLaws
pub mod Exactly
