pub mod Shortages
pub mod Owed
pub mod Served
