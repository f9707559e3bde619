pub mod EditsAsked
pub mod Entries
pub mod Putting
pub mod RefusalTable
pub mod Laws
pub mod Common
