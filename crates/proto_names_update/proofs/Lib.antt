mod Again
pub mod Clean
pub mod Differing
pub mod EditedImports
pub mod FileLists
pub mod FilesDeclare
mod ImportsByFile
mod Leaving
mod OwnScopes
mod Places
mod Renewing
mod Replaced
mod RowsPut
mod Undoing
