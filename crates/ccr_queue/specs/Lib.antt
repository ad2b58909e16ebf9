pub mod Answers
pub mod QueueTies
