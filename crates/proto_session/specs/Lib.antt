pub mod Answering
pub mod Changes
pub mod Laws
pub mod Sessions
pub mod Steps
