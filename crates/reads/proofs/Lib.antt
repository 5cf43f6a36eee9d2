-- Laws about the reading calls.
pub mod Laws
