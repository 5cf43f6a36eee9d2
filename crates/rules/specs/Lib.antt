-- Documents 01 and 02 as definitions.
pub mod Node
pub mod Small
pub mod Integer
pub mod Said
pub mod State
pub mod Lent
pub mod Record
pub mod Reads
pub mod Creates
pub mod Restores
pub mod Tree
pub mod Serial
pub mod Load
pub mod Save
pub mod Whole
pub mod Paper
pub mod Words
