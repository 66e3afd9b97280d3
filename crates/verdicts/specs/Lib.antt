pub mod Verdicts
pub mod Worked
