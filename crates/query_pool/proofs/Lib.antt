mod Common
mod Adding
mod Counts
pub mod Gathered
mod Recording
mod Stealing
mod Unwrapping
