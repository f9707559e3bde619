mod DottedTest
pub mod Puts
pub mod ShortPuts
pub mod Walks
mod EntrySums
mod EntryTests
pub mod TextPlaces
pub mod Common
mod Unchanged
