pub mod Blocks
pub mod CappedFlaws
pub mod Common
pub mod FlawTokens
mod JsonDigests
pub mod KnownNames
pub mod OptionNames
pub mod Phases
pub mod WrittenFlaws
