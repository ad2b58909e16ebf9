pub mod Numbering
pub mod FewSpotsAndPlaces
pub mod Cuts
pub mod RepliesFitAsks
pub mod PlacesKeepKnownNames
