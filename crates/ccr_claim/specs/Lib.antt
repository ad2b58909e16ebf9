pub mod Asks
pub mod Plans
pub mod Attempts
pub mod Firings
pub mod Inside
pub mod Lines
pub mod Settling
pub mod Wired
