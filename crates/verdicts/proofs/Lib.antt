pub mod OneVerdict
pub mod SmallFile
pub mod SmallChecks
pub mod SmallRuns
pub mod Telling
