pub mod EventRows
pub mod Gathering
pub mod Levels
pub mod Readings
pub mod Rules
pub mod Sets
