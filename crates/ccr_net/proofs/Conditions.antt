-- That each ask of a run meets the condition of its place.
pub mod BranchesHavePositions
pub mod SlotPortsDiffer
pub mod CommitsMeetConditions
pub mod RunsStayReady
pub mod AsksMeetConditions
