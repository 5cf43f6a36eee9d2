-- Laws of integers as bytes.
pub mod Bytes
pub mod Counts
pub mod Thresholds
pub mod Shortest
pub mod Words
