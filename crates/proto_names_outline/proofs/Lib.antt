mod Behind
pub mod Common
mod CoreUses
pub mod FromTree
pub mod Growing
pub mod InTokens
pub mod JoinedWords
mod Listed
mod MarkedNames
mod MarkedTokens
mod MarkedUses
pub mod MovedHeads
pub mod PackageFirst
pub mod PlainEntries
pub mod ReadTrees
pub mod ReadWords
pub mod Roles
