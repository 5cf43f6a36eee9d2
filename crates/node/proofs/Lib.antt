-- Laws about bytes and numbers that the proofs cite.
pub mod Laws
