pub mod Posters
pub mod Generated
pub mod Lines
pub mod Weights
