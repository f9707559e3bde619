-- What proofs of the crates above name of this crate, passed on from one place. Declares nothing.
pub use Rattle.proto_edit_captures.proofs.Declarations.{IsDeclaredBy, declared_by, declared_there, ends_with_token, is_written, path_of_declared}
pub use Rattle.proto_edit_captures.proofs.Inside.{tokens_are_inside}
pub use Rattle.proto_edit_captures.proofs.NoLinkFault.{files_are_linked, files_are_woven}
pub use Rattle.proto_edit_captures.proofs.OneTarget.{place_last}
pub use Rattle.proto_edit_captures.specs.FoundTargets.{IsTargetOf, IsFoundTarget, IsNoTarget}
pub use Rattle.proto_edit_captures.specs.CapturedPlaces.{IsCapturedPlace, RefusalStandsAtToken}
pub use Rattle.proto_edit_rules.specs.Rename.{IsFirstPlace, IsUnknown, ReservesWord, StandsBefore, HasEnum, IsEnumOf, Target}
pub use Rattle.proto_edit_captures.specs.SceneOf.{is_enum_at, scene_of}
