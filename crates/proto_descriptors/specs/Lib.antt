pub mod Descriptors
pub mod Names
pub mod Views
