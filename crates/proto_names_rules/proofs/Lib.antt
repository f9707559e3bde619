pub mod Basics
mod Beginnings
pub mod Common
mod Cycles
mod Decided
mod Deleted
pub mod Edited
mod Examples
pub mod Files
pub mod Following
pub mod Forest
pub mod Grown
mod Imports
pub mod Items
pub mod Joined
mod Kept
pub mod Mapped
pub mod Marked
pub mod Ren
pub mod Rename
pub mod Renamed
pub mod RisingLists
mod Scopes
pub mod Seeing
pub mod Shifted
mod Sight
pub mod Sound
mod Unaffected
pub mod Still
pub mod Symbols
pub mod Tree
mod Numbered
