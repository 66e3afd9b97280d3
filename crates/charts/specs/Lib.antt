pub mod Alphabets
pub mod Headers
pub mod Meanings
pub mod RowSteps
pub mod Rows
pub mod Sets
