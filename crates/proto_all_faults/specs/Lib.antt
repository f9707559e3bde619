pub mod AllFaults
pub mod Common
pub mod Laws
pub mod ListedPaths
pub mod Steps
