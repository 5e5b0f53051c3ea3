-- The laws of this crate, file by file.
pub mod LevelLaws
pub mod PointLaws
pub mod CarrierLaws
