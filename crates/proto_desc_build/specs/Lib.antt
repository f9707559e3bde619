pub mod Capped
pub mod Described
pub mod Written
