pub mod Parsed
pub mod KnownCell
pub mod KnownCellValue
pub mod Seen
pub mod SeenValue
