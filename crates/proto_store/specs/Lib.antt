pub mod Common
pub mod Memory
pub mod Reading
pub mod Stores
