-- What the reader's own enum and struct mean.
pub mod Tokens
pub mod Readings
