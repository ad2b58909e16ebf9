pub mod Lines
pub mod Valid
pub mod Loads
pub mod Plays
pub mod OneMoreMessage
pub mod PostsNeverGrow
