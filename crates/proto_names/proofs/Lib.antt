mod BelowTypes
pub mod Common
mod Copies
mod DeclaredRows
mod EachFile
mod FileMeanings
mod FirstTokens
mod GrownLists
mod InScope
mod KindRows
mod LeastFlaws
mod LinkErrors
mod LinkIndex
mod LinkLaws
pub mod LinkMeanings
mod LinkParts
mod LinkTable
mod Linking
mod MarksMore
mod MeantBy
pub mod MeantNames
mod NameErrors
mod NamesOfRows
pub mod NamesThere
mod NoCycles
mod PartsBefore
mod ReferencesByRow
mod ReferencesStand
mod Referring
mod RenewedImports
mod RenewedLink
mod RenewedLists
mod RenewedMarks
mod RenewedMeanings
mod RenewedParts
mod RenewedSight
mod Scopes
mod TableNames
mod Unmeant
pub mod UsesOfFiles
mod ValuesAtPlaces
mod WaysBack
