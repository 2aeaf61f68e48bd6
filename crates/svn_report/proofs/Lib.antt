mod Common
mod AnswerTexts
mod Batches
mod BlockEnds
mod BlockIndexes
mod BlockMapsJoined
pub mod Fronts
mod GrownRepos
mod LoadErrors
mod QueryLines
mod RecordEnds
mod Reports
pub mod SharedRepos
