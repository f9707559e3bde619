pub mod Extensions
pub mod FileWords
pub mod FixedNames
pub mod Noted
pub mod OptionValues
pub mod Words
