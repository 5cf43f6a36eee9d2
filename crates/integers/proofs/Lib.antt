-- Integers written by new_u64 and new_i64, and read back.
pub mod ReadBack
