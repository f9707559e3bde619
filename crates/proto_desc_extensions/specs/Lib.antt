pub mod Capped
pub mod Common
pub mod ExtendedTables
pub mod Extends
pub mod Extensions
pub mod Listed
pub mod OpenTables
pub mod Options
