mod Common
mod CanonicalEntries
mod CanonicalRuns
mod CanonicalValues
mod Clashes
mod Collected
mod Decimals
mod Each
mod Elements
mod Entries
mod InheritedEntries
mod Inheriting
pub mod InheritedRevisions
mod JoinedBytes
mod LineReads
mod LinesRead
mod OneLine
mod OnlyValues
mod PathOrder
pub mod PrintedPaths
mod ReadsBack
mod Rising
mod RunTexts
mod RunsAt
mod RunsByPath
