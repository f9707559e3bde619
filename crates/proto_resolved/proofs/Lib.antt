pub mod BlockTrees
pub mod EnumRows
mod EnumTables
pub mod Holders
pub mod MeantEnums
pub mod MeantPlaces
pub mod ReadScenes
pub mod ScenesAsWritten
