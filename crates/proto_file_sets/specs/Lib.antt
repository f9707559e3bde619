pub mod FileSets
pub mod Words
