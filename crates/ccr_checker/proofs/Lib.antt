pub mod Numbered
pub mod Stillness
pub mod Refusals
pub mod StillTold
pub mod JudgesStayJudges
pub mod LegalEventsOneByOne
