-- Laws of an atom's shortest form, and of a node's.
pub mod Prefixes
pub mod Forms
