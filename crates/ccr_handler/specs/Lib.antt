pub mod Evaluating
pub mod Playing
