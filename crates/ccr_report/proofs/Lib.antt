pub mod SameNames
pub mod SpotsOf
pub mod Tallies
pub mod SpotCounts
pub mod TextParts
pub mod HasRows
pub mod RowsTold
