-- Definitions that the contracts of this crate cite, besides those of the rules.
pub mod Parts
