pub mod Bank
pub mod File
pub mod Formed
pub mod Layout
