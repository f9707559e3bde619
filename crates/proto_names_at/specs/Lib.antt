pub mod DeclaredAt
pub mod Defaults
pub mod NamesAt
pub mod Occurring
pub mod References
pub mod Tokens
