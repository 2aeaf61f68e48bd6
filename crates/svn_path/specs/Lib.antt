pub mod Below
pub mod Components
pub mod Lookup
pub mod Names
pub mod NamesError
pub mod Path
pub mod PathError
pub mod PathOrder
