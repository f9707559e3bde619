mod Between
mod Holdings
mod Replacing
mod Recorded
mod Grown
mod Committed
mod Undone
mod PutPaths
mod TornUndos
mod CutCalls
mod OneOutcome
pub mod Loaded
mod PathsFirst
mod Gathered
