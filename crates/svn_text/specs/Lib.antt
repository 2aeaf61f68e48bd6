pub mod Appended
pub mod Bytes
pub mod Cut
pub mod Line
pub mod Number
pub mod SeededHasher
pub mod Text
pub mod TextTable
