pub mod Rules
pub mod Rows
pub mod Turns
pub mod Ends
pub mod Numbers
pub mod Texts
pub mod Bundles
pub mod Same
