pub mod Lines
pub mod Positions
pub mod TextEdits
pub mod EditViews
