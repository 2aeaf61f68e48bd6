pub mod Calling
pub mod Gathering
pub mod Serving
pub mod Slots
pub mod Stealing
