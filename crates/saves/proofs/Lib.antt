-- The theorems.
pub mod Rooms
pub mod Nodes
pub mod Deep
pub mod Writes
pub mod Atoms
pub mod Forms
pub mod Saves
