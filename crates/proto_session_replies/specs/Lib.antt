pub mod Edits
pub mod Placing
pub mod Replies
pub mod Symbols
