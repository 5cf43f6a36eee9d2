-- What loading a file comes to.
pub mod Files
