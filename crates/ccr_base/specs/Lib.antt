pub mod Names
pub mod Values
pub mod Padding
pub mod Selection
pub mod Bounds
pub mod Lists
pub mod Groups
