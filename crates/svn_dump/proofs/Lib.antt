mod Common
mod Blocks
mod Drafts
mod EntriesRead
mod Feeds
mod Fields
mod FirstLines
mod FirstRefusals
mod Fronts
mod MiTexts
mod Nodes
mod PartialBodies
mod PartialHeaders
mod PartialLines
mod SectionPieces
mod Readers
mod Readings
mod Refusals
mod Contents
mod Undecided
mod WholeBlocks
pub mod Lists
pub mod Belows
pub mod Entries
pub mod Faults
pub mod FirstRevisions
pub mod Formats
pub mod Grouped
pub mod Growing
pub mod Growth
pub mod Histories
pub mod Locations
pub mod Origins
pub mod Renaming
pub mod Revisions
pub mod Sections
pub mod Trees
