pub mod Declarations
pub mod Deleted
pub mod Imports
pub mod NamedFlaws
pub mod OneField
pub mod Renamed
pub mod Roles
