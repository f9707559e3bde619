pub mod Camel
pub mod Cases
pub mod Digest
pub mod Versions
