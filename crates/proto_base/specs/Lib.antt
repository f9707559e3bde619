pub mod Ascii
pub mod FaultTable
pub mod GivenFiles
pub mod Texts
pub mod Undone
pub mod Words
