pub mod Common
mod Entries
pub mod Loading
pub mod PathOrder
pub mod Replaced
