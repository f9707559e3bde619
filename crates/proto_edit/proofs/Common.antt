-- What proofs of the crates above name of this crate, passed on from one place. Declares nothing.
pub use Rattle.proto_edit.proofs.EditSteps.{run_more, undo_once}
pub use Rattle.proto_edit.specs.Compiled.{AreCompiled}
pub use Rattle.proto_edit.specs.Workspaces.{Asked, IsLeastCase, IsMappedStep, IsCaseAt, IsUndo, Run, accepted}
