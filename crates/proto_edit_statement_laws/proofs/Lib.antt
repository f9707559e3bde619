mod Apart
pub mod ChangesCommon
pub mod Common
mod DeletionChanges
pub mod Deletions
mod Depth
pub mod Endings
mod Examples
pub mod Exchanged
pub mod FieldNames
pub mod Fields
mod FieldsThere
mod FileContexts
pub mod Found
mod ImportChanges
pub mod ImportLists
pub mod ImportNames
mod ImportPlaces
mod Imports
pub mod Kept
mod LastOf
pub mod LeadingWalks
pub mod Less
pub mod LexemesMoved
pub mod Lists
pub mod Marks
pub mod MovedNames
pub mod NamesCommon
pub mod NamesOut
pub mod NewStatements
pub mod OneFile
pub mod OptionsMoved
pub mod Paths
pub mod Places
pub use Rattle.proto_edit_rename_laws.proofs.Declarations
pub use Rattle.proto_edit_rename_laws.proofs.NoLinkFault
pub use Rattle.proto_edit_rename_laws.proofs.Scenes
mod Reading
pub mod Reversed
pub mod SameImports
pub mod Seams
mod Sight
pub mod Spelled
pub mod StandsOnce
pub mod TakenOut
pub mod TextLaws
mod Walks
mod OneSplice
