pub mod Begins
mod CloseLoop
pub mod Common
pub mod CoreTokens
pub mod EditLaws
mod EndLoop
mod Ends
mod Grouping
pub mod Once
pub mod OneEdit
pub mod Order
mod PieceEdits
mod Prefixes
mod PutIn
mod Reading
mod Runs
mod Segments
pub mod Sequence
pub mod Spans
pub mod Texts
mod Units
pub mod Values
pub mod WordChange
pub mod WordTest
