pub mod WorkLeftFalls
pub mod StepsLeaveLess
pub mod StepsOverNets
