pub mod Common
pub mod Copied
pub mod Mapped
