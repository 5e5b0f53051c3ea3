-- The laws of this crate, file by file.
pub mod StateTold
pub mod NumberBack
pub mod NumberLaws
pub mod PlaceTold
