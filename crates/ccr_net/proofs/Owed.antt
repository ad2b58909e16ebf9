-- What actors owe to places, and that it is there to be settled.
pub mod EntriesAreMoves
pub mod WorkKeepsStates
pub mod EntriesChangeOwing
pub mod OwedByOneOnce
pub mod OwedClaimsStand
pub mod PutTasksAreBooked
pub mod NotedOversAreOver
pub mod OversMayBeNoted
pub mod AttemptNamesAreNew
pub mod OwedAtOwnPlaces
pub mod PostersAreCounted
pub mod PostsAreBounded
