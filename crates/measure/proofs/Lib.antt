pub mod WalkSizes
