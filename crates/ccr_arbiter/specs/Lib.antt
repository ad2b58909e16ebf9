pub mod Replies
pub mod Spare
