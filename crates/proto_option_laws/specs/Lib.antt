pub mod Declared
pub mod Filled
pub mod Renames
