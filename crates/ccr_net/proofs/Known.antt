-- That a run names only what the wiring has.
pub mod CausesAreKnown
pub mod TasksAreKnown
pub mod PlacesAreKnown
pub mod StatesAreKnown
pub mod AsksAreKnown
pub mod RunsAreKnown
