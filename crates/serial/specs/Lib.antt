-- What is proved of the serialised form.
pub mod Forms
