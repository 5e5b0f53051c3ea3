-- The laws of this crate, file by file.
pub mod GivenLaws
pub mod Histories
pub mod StepCases
pub mod Refusals
pub mod ShownLaws
