pub mod Canonical
pub mod Only
pub mod Maximal
mod Places
mod Pushed
pub mod Same
mod Texts
