-- Laws about records.
pub mod Frames
pub mod Fine
