pub mod Gathering
pub mod Replies
pub mod Sorting
pub mod AttemptHandsSettle
pub mod HandsAreOwed
pub mod CausesStandOnce
