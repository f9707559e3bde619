pub mod Checked
pub mod Common
pub mod Extended
pub mod Kept
pub mod Marks
pub mod Unaffected
pub mod StillEnums
pub mod Values
