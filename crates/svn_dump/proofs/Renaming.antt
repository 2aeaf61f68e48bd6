-- The renamed history has the renamed trees, the same faults and the renamed locations.
pub mod Faults
pub mod Locations
pub mod Paths
pub mod Trees
