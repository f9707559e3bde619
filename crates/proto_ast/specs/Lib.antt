pub mod Common
pub mod JsonNames
pub mod Labels
pub mod Numbers
pub mod Options
pub mod Parts
pub mod Scenes
pub mod Views
