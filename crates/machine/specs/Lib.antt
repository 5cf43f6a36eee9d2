-- The machine of the request program as definitions over `rules` (document 01, "The request program").
pub mod Machine
pub mod Sane
