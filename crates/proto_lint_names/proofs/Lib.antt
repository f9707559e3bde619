mod BlockTrees
pub mod Common
mod EnumItems
mod FileMessages
mod JoinedTrees
mod Joins
pub mod LastSplit
mod Listing
mod OuterMessages
mod Readings
mod Steps
mod Twice
