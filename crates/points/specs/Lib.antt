pub mod Conditions
pub mod Examined
pub mod Losses
pub mod Lowest
pub mod Markings
pub mod Tried
pub mod Whole
