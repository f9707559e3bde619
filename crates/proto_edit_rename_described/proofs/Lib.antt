pub mod Allowed
pub mod CleanFiles
pub mod DefaultWords
pub mod DefaultsFit
mod DefaultsKept
pub mod EnumDefaults
mod Examples
mod ExtensionsStay
mod FileStays
pub mod FilesTurn
pub mod Mapped
pub mod NamesKept
mod OptionMessages
mod OptionsStay
pub mod OtherTokens
pub mod ScenesTurn
mod TreeTurns
pub mod WrittenJson
mod Unchanged
