-- What is said of saved program files.
pub mod Saves
