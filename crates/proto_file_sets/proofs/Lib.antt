pub mod Members
mod Bits
mod FilesInWords
mod FileLists
