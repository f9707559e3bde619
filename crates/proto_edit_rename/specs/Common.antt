-- What proofs of this crate name of its own definitions, passed on from one place.
-- Declares nothing.
pub use Rattle.proto_edit_rename.specs.Cases.{IsFreeBefore}
pub use Rattle.proto_edit_rename.specs.Changes.{AreChangesOf, AreFilesToChange, ArePlacesIn, AreWholeChanges, HasDefaultsIn, IsChangeIn, IsChangesFault, IsFaultIn, IsValueOf, or_own, places_of}
pub use Rattle.proto_edit_rename.specs.MadeChanges.{IsChangeAt, IsFileChange, IsRewordFault, PutsAt, StandInOrder, bytes_in, marked_from, marked_tokens, word_put}
pub use Rattle.proto_edit_rename.specs.Occurrences.{AreOccurrences, AreOccurrencesIn, AreOccurrencesOf, AreOccurrencesOfName, HasNoTarget, tokens_in}
pub use Rattle.proto_edit_rename.specs.Renames.{AreChangesOfRename, IsLeastRenameCase, IsRenameCase, IsRenameRefusal, IsRenamed}
pub use Rattle.proto_edit_rename.specs.declared.changing.RewordFault.{RewordFault}
pub use Rattle.proto_edit_rename.specs.declared.changing.RewordFault.TheVariants.{NoMemory, TooLarge}
