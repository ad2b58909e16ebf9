pub mod HandsSettle
mod Plays
pub mod AttemptsGoOn
pub mod StepsOfAttempts
mod StepsOfWork
pub mod Bounds
mod Worked
pub mod WhatCountsIsKept
mod FieldsAfterAStep
mod AnswersNeedMemory
pub mod ActorsFollowTheirSteps
pub mod Dues
pub mod TurnsTellStates
