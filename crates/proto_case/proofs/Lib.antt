pub mod Camel
pub mod EntryNames
mod Uppers
mod Snakes
pub mod Common
