pub mod TurnSaid
pub mod TurnsSaid
mod TurnsAnswered
pub mod SchedulesGiveRuns
pub mod EntryParts
pub mod FirstLine
pub mod Splits
pub mod NoRecord
pub mod LineEnds
pub mod ReadingIsExact
pub mod AnswersTellTexts
pub mod RecordsAreReadAgain
mod Worked
