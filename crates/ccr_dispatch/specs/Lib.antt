pub mod Ranks
pub mod ToRest
pub mod Lawful
