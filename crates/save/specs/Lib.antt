-- What the functions of this crate promise each other, beside the rules.
pub mod Saves
