pub mod Lines
pub mod Names
pub mod Headers
pub mod Grammar
