pub mod Boundaries
pub mod Lines
pub mod Orders
pub mod Puts
pub mod Utf16Units
pub mod Walks
