-- The laws of this crate, file by file.
pub mod SubcarrierLaws
pub mod RunLaws
pub mod NumberLaws
