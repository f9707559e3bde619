pub mod Common
mod Digits
pub mod ItemBlocks
pub mod JoinedTrees
mod Means
mod SortedNames
mod Statements
mod Strings
