pub mod Common
pub mod Core
pub mod FromTree
pub mod Listing
pub mod Moved
pub mod Roles
