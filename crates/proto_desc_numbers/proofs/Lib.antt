pub mod CappedCovers
pub mod CappedNumbers
pub mod CappedRanges
pub mod Common
pub mod FlawLists
pub mod IndexLemmas
