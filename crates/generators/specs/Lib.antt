pub mod Formed
pub mod Selfloops
