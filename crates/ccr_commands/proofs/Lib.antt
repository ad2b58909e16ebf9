pub mod Bounds
pub mod Inputs
mod DoneAlone
pub mod FoundOnce
pub mod Statuses
pub mod SinglePosts
pub mod KnownEvents
pub mod FoundLegal
mod ToldAsTurns
mod TurnsToRest
mod GivenIsDue
mod TotalsAreTold
mod ReadAgain
