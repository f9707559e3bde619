pub mod Messages
pub mod Objects
pub mod Parameters
pub mod Reading
pub mod Results
pub mod Writing
