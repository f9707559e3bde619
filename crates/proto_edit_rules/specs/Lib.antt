pub mod AddImport
pub mod DeleteField
pub mod DropImport
pub mod OptionViews
pub mod Options
pub mod Rename
pub mod Statements
