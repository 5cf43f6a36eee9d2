-- What the contracts of the integer writers say.
pub mod Word
pub mod Written
