pub mod Parts
pub mod Kept
pub mod Owed
pub mod Conditions
pub mod Known
pub mod Played
mod Worked
