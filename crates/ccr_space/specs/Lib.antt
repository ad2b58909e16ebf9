pub mod Spaces
pub mod Closes
pub mod Shows
pub mod Pauses
