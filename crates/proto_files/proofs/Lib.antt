pub mod WorkspacePathTest
pub mod Members
pub mod PathOrder
pub mod FaultOrder
pub mod PathWalk
pub mod NamedLists
pub mod SetFiles
pub mod FoundPath
pub mod FirstFaultSteps
pub mod FirstErrors
pub mod FileErrors
pub mod LeastOfFiles
pub mod CoreFiles
pub mod OneLeast
mod Rows
pub mod OneOrder
pub mod WordsAt
mod StringsAt
pub mod OwnTokens
pub mod FilesAreRead
pub mod OneReading
pub mod ReadOnce
pub mod Common
