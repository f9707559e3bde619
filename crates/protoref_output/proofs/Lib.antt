mod Beginnings
mod ChangeLines
pub mod Common
mod Cursors
mod FoundFiles
mod LogSteps
mod ReferencePlaces
