pub mod Tallies
pub mod Totals
pub mod Telling
pub mod Judging
