pub mod Columns
pub mod Departures
pub mod Plain
