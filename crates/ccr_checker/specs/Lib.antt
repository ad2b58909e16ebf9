pub mod Left
pub mod Quiet
pub mod Judging
pub mod LeftInTables
pub mod Judges
