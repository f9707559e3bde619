pub mod CommandLines
pub mod Common
pub mod Languages
pub mod Marked
pub mod Matched
pub mod Program
pub mod Requests
