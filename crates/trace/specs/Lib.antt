-- The request program's text as definitions over `machine` and `request` (document 01, "The request program").
pub mod Step
pub mod Trace
pub mod Run
