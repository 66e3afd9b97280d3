pub mod Ways
pub mod Lowest
pub mod Rules
