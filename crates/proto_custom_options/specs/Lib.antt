pub mod CustomOptions
pub mod Views
