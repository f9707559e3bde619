mod Acyclic
pub mod Common
mod CycleFaults
pub mod EditedCycles
pub mod FaultPlaces
pub mod FileUses
pub mod FilesAsWritten
mod FilesAsked
mod FoundImports
mod ImportFaults
pub mod ImportGraph
pub mod KeptImports
pub mod LeastLinkFault
mod LedTo
mod ListedImports
pub mod NumberedFiles
mod PathFaults
pub mod PlainNames
mod Ranks
pub mod Resolving
mod SeenAgain
pub mod SeenFiles
pub mod SightStays
pub mod Turned
pub mod Walks
mod Numbered
