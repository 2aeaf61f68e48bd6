pub mod Callers
mod KnownCells
pub mod SharedMemos
