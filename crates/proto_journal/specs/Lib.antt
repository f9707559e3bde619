pub mod Commits
pub mod Undoing
pub mod Loads
pub mod Written
pub mod Laws
pub mod Common
pub use Rattle.proto_edit.specs.Answers
pub use Rattle.proto_edit.specs.Workspaces
