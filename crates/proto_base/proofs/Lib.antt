pub mod Common
pub mod Lists
mod TakenBack
pub mod Turns
pub mod WithValues
