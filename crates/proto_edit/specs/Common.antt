-- What proofs of this crate name of its own definitions, passed on from one place.
-- Declares nothing.
pub use Rattle.proto_edit.specs.Answers.{IsPutRefusal, IsUndoAllRefusal, IsUndoRefusal, LeadsBack, asked}
pub use Rattle.proto_edit.specs.Compiled.{AreCompiled, fault_of_kind}
pub use Rattle.proto_edit.specs.Laws.{AcceptedAreNotable, CompiledAreRead, DescribedOnce, EditsAreMade, MappedOnce, RefusedOnce, RunsAreUndone, StepsAreUndone, StepsCompile, StepsLeaveOptions, StepsOnce, UndoneOnce, WorkspacesAreClean}
pub use Rattle.proto_edit.specs.StatementLaws.{StatementLaws}
pub use Rattle.proto_edit.specs.Workspaces.{AreChanges, AreMapped, Asked, ChangesOf, IsAdmissible, IsLeastCase, IsMappedStep, IsCaseAt, IsRefusal, IsStep, IsUndo, Maps, PlaceOf, Run, Undone, accepted, add_import, delete_field, drop_import, rename}
