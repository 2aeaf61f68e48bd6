pub mod Belows
pub mod Components
pub mod Orders
pub mod Tables
pub mod Exits
mod Printed
mod Reading
