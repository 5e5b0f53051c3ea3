-- The laws of this crate, file by file.
pub mod StepLaws
pub mod TallyLaws
pub mod GroupLaws
