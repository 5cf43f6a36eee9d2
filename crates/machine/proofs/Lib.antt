-- Laws of the machine.
pub mod Kept
