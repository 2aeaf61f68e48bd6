pub mod Appended
pub mod Cuts
pub mod Lines
pub mod TextTables
