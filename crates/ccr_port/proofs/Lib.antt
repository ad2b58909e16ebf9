pub mod Chains
pub mod Linking
pub mod LaneLinks
pub mod ItemLinks
pub mod Listing
pub mod LaneLists
pub mod MessagesBearTheirPort
pub mod PortSteps
