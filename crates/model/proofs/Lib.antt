pub mod Bitwords
pub mod Finds
pub mod Places
pub mod Turns
pub mod Words
