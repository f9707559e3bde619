pub mod Blocks
pub mod Captures
pub mod ChangesEntry
pub mod ChangesPut
pub mod Common
pub mod CustomTokens
pub mod Declarations
pub mod DefaultTokens
mod EntryFields
mod EnumsOfValues
pub mod FirstPlaces
pub mod Inside
pub mod NoLinkFault
pub mod OldTexts
pub mod OneTarget
pub mod OptionWords
pub mod Places
pub mod PlacesSuit
pub mod Rewording
pub mod Scenes
pub mod TargetThere
pub mod TokenRoles
mod ValueMarks
mod Numbered
