pub mod Chains
pub mod Entries
pub mod Lanes
pub mod Marks
pub mod Replies
