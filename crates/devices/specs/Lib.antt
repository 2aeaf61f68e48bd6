pub mod Arguments
pub mod Device
pub mod GhostCount
pub mod Sending
