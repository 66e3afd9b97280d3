pub mod Banked
pub mod ComponentSteps
pub mod FileSteps
pub mod Rows
pub mod Same
