pub mod Removed
pub mod Joined
