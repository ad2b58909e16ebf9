pub mod Judge
pub mod Verdicts
