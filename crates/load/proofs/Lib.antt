-- The laws that the reader's proofs cite.
pub mod Readings
pub mod Tokens
