mod ClassLemmas
pub mod Common
pub mod CoreTrees
pub mod Depth
mod Each
pub mod Exact
pub mod Faults
mod Many
pub mod MarkLaws
pub mod MoveLaws
pub mod Nodes
mod OneFault
mod PieceRules
pub mod Places
pub mod ReplaceLaws
pub mod Roles
mod Rules
pub mod SpacedWords
mod Table
mod Values
pub mod Walks
pub mod WordLaws
