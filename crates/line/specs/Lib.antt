pub mod Answers
pub mod Checked
pub mod Home
pub mod Judged
pub mod Lent
pub mod Queues
pub mod Steps
