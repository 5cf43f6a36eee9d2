-- Whole states, and what is proved of the rules over them.
pub mod Wf
pub mod Makes
pub mod Causes
pub mod Loads
pub mod ByCalls
pub mod Back
pub mod Runs
