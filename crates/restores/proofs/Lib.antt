-- Laws that several proofs of this crate cite.
pub mod Ables
pub mod Visits
pub mod Saved
