pub mod AllFaults
pub mod Clashes
pub mod Common
pub mod Flaws
pub mod Imports
pub mod NamesOfFiles
pub mod Resolving
