pub mod Edited
pub mod Forgetting
pub mod KeptImports
pub mod NameLogs
pub mod NamesOfFiles
pub mod Relinked
pub mod Renewal
pub mod RenewedNames
