pub mod Additions
mod Apart
pub mod ChangedFile
pub mod Common
mod Decimals
mod Declared
pub mod DeclaredPlaces
mod DeletedDescriptors
mod DeletedExtensions
mod DeletedFlaws
pub mod DeletedHeads
pub mod DeletedOptions
mod DeletedScenes
pub mod Drops
mod Enums
mod Extended
pub mod ExtensionLists
mod FieldNamed
mod FieldNames
pub mod FilePlaces
mod FoundBlocks
mod FoundImports
mod ImportFaults
mod ImportedExtensions
mod ImportedScenes
mod Inserted
pub mod Kept
mod MovedDescriptors
mod MovedEnums
mod MovedImports
mod MovedNames
pub mod MovedScenes
mod MovedTexts
mod NamedFiles
mod NamedTrees
pub mod OneFile
mod OneRead
pub mod OtherScenes
mod OwnTokens
mod Parts
mod PathTokens
mod Places
mod RightOptions
pub mod SaidBlocks
mod SameExtensions
mod SmallNumbers
mod Spelled
mod Trees
mod Workspace
mod Written
mod Unchanged
