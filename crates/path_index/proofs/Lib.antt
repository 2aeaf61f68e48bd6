mod Common
mod CameFromItself
mod ChildrenDistinct
mod EntriesOfPaths
mod HistoryTo
mod HitsOfSegments
mod JoinedRecords
mod KeptRecords
mod LastSet
mod ListsOfNodes
mod MappedNodes
mod NewestRecords
mod NodesOfPaths
mod NumbersOfNodes
mod Operative
mod PlacesOfNodes
mod Prefixes
mod RangesOfNumbers
mod RecordEffects
mod Rising
mod Segments
mod SegmentsUpTo
mod Spans
mod Steps
mod Traces
pub mod CopiesInOrder
pub mod DownFrom
pub mod Histories
pub mod Renaming
