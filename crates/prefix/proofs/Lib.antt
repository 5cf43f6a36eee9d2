-- The laws of the table of prefixes.
pub mod Table
