pub mod FiringsMayBeGiven
pub mod TableSteps
