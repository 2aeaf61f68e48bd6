pub mod Chain
pub mod GhostList
pub mod Making
pub mod Parts
pub mod Sum
pub mod Weightless
