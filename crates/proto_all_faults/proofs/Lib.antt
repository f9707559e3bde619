mod CheckLists
mod FilePhases
pub mod FirstPhases
mod GivenFaults
mod GivenPhases
mod PathLists
mod SameLeast
mod TextLists
