pub mod CappedDescriptors
pub mod Common
pub mod Levels
pub mod WrittenDescriptors
