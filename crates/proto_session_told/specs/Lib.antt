pub mod Laws
pub mod Runs
pub mod Shown
pub mod Telling
