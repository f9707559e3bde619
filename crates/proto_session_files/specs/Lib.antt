pub mod Changed
pub mod Compiling
pub mod Homes
pub mod Laws
pub mod Places
pub mod Seeing
pub mod Views
