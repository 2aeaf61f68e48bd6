pub mod Canonical
pub mod Rangelist
pub mod Sweep
pub mod Text
