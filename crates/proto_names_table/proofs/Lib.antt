pub mod Alike
mod Begun
mod Clashing
pub mod Common
mod Copied
pub mod Filled
mod Forgotten
mod Gathered
pub mod Held
mod IndexAdded
mod Indexed
mod Kept
pub mod NameFaults
pub mod Naming
mod OneRow
mod PackageTexts
mod Passes
mod Positions
pub mod Resolved
pub mod Search
pub mod SpelledNames
mod Tables
pub mod UseFaults
