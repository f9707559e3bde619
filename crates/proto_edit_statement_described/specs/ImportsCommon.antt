-- What proofs of this crate name of its own definitions, passed on from one place.
-- Declares nothing.
pub use Rattle.proto_edit_statement_described.specs.MovedFiles.{AreMoved}
pub use Rattle.proto_edit_statement_described.specs.Workspaces.{AdditionsAreMade, AreFaultless, DropsAreMade, MayAdd, MayDrop}
