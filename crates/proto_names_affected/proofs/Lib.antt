mod Begun
mod ChangedFirsts
mod Changes
pub mod Inserted
mod KindRows
mod LastWords
mod Marks
mod Merging
pub mod References
mod Referring
mod Renewing
mod Rows
mod Sights
pub mod WordSets
