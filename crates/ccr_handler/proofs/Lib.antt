pub mod SamePlays
pub mod PlaysLeft
pub mod LaterSegments
