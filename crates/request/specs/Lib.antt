-- What a record of the request program asks (document 01, "The request program").
pub mod Bytes
pub mod Kind
pub mod Request
