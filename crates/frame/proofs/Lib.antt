-- The laws of this crate, file by file.
pub mod FrameLaws
pub mod Refusals
pub mod PointsLaws
