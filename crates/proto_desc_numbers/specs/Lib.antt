pub mod Common
pub mod Flaws
pub mod NumberFlaws
pub mod RangeIndex
