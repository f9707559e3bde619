pub mod Nesting
pub mod Quoting
pub mod Sending
pub mod Texts
