pub mod Agree
pub mod Below
pub mod Declared
pub mod Filled
pub mod Filtered
pub mod Here
mod Maps
pub mod Renames
pub mod Types
mod Views
