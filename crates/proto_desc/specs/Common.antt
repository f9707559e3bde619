-- What proofs of this crate name of its own definitions, passed on from one place.
-- Declares nothing.
pub use Rattle.proto_desc.specs.CheckSteps.{AreOfWorkspace, HasNoFlaw, IsFaultOf, IsLeastFlawError}
pub use Rattle.proto_desc.specs.Checked.{CheckFaults, IsCheckError, described_from, fault_of_flaw, flaws_of, of_flaw}
