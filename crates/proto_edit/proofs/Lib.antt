mod Chains
pub mod Common
pub mod EditSteps
pub mod GivenAgain
mod MappedSteps
mod NamedFields
mod NotableEdits
pub mod OneAnswer
mod OptionSteps
mod Refusals
mod Reopening
mod StatementSteps
