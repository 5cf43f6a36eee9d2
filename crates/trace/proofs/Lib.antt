-- Laws of the request program, and the theorems about its text.
pub mod Steps
pub mod Traces
pub mod Whole
