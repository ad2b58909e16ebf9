-- That each step of an actor keeps the whole, and so what is visible is legal.
pub mod WholeInvariant
pub mod SilentStepsKeepAll
pub mod WhatWiringsHave
pub mod ValidWiringsArePlain
pub mod EventsAreAllowed
pub mod ShownStepsKeepAll
pub mod FiringsKeepAll
pub mod AttemptsKeepAll
pub mod AdmissionsKeepAll
pub mod WorkKeepsAll
pub mod EachTurnKeepsAll
pub mod RunsAreLegal
pub mod ClosersFireNothing
