pub mod Answers
pub mod Common
pub mod Compiled
pub mod Laws
pub mod MappedSteps
pub mod OptionLaws
pub mod StatementLaws
pub mod Workspaces
