mod ApartTexts
mod Brought
pub mod ChangedFiles
pub mod InLanguage
mod LaidTexts
mod Laying
mod OtherTexts
pub mod OwnFaults
mod SchemaPaths
mod SeenFiles
