pub mod CheckedFiles
pub mod Common
mod FilesAsWritten
pub mod GivenInOrder
pub mod LeastCheckFault
mod MadePut
mod NewTextFaults
mod Opened
mod PrintedTexts
mod ReadTexts
mod Renewed
mod ReplacedTexts
pub mod SameBut
mod WithTexts
mod Numbered
