mod Added
mod Clashes
mod CycleFaults
mod EachFile
mod FileFaults
mod FullNames
mod ImportTurns
mod InOrder
mod KindFaults
mod Listed
mod LocatedFlaws
mod NamesAsRead
mod PathFaults
mod PhasesOfLinks
mod ResolvedKinds
mod TableNames
mod TakenNames
pub mod NoneListed
