-- The theorems.
pub mod Table
pub mod Digits
pub mod Places
pub mod Tokens
pub mod Parses
pub mod Shortest
