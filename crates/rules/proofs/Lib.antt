-- Laws about the definitions, for whoever proves something with them.
pub mod Tests
pub mod Needs
pub mod Alls
pub mod Limits
pub mod Sound
pub mod Args
pub mod Bytes
pub mod Smalls
pub mod Lists
pub mod Cases
pub mod Trees
pub mod Overs
