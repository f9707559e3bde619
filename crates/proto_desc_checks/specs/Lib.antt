pub mod Capped
pub mod Common
pub mod FieldFlaws
pub mod FileFlaws
pub mod Written
