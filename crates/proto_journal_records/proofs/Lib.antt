pub mod TornStores
pub mod UnreadJournals
mod Apart
mod Behind
pub mod Comebacks
mod CompactText
mod DataTexts
mod EditData
mod JournalLists
mod Lines
mod Migrations
mod OldFiles
mod OldTexts
pub mod OneRecovery
mod Outcomes
mod PutBack
mod ReadSteps
mod RecordTexts
pub mod Common
