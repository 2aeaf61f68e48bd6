mod Common
pub mod AnswerTexts
mod CopiesOfDump
mod EffectiveValues
mod HeldRevisions
pub mod InBytes
pub mod LocationsInBytes
mod NearestMergeinfo
mod OperativeLocations
pub mod OriginsInBytes
mod PathSegments
mod PegsFound
pub mod Queries
mod RangeFilters
pub mod RevisionRecords
pub mod RevisionTicks
mod SourceRevisions
pub mod StandingsInBytes
pub mod TreeEntries
pub mod TreePaths
mod TreeValues
pub mod WorkersSeen
