pub mod Counting
pub mod Counted
pub mod Report
pub mod Rows
