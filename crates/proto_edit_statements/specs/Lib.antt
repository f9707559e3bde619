pub mod Common
pub mod Edits
pub mod FieldPlaces
pub mod Fields
pub mod ImportPlaces
pub mod Imported
pub mod Spliced
pub mod Steps
