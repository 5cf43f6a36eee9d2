-- The theorems.
pub mod Items
pub mod Files
pub mod Forms
pub mod Codes
pub mod Shows
pub mod Example
pub mod Back
