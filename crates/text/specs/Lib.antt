-- The text of the request program as definitions.
pub mod Page
pub mod Text
