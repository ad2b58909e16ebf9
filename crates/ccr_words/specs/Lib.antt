pub mod Parts
pub mod Table
pub mod AskedFor
pub mod Parsing
pub mod Clap
