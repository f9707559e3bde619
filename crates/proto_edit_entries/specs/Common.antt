-- What proofs of this crate name of its own definitions, passed on from one place.
-- Declares nothing.
pub use Rattle.proto_edit_entries.specs.EditsAsked.{Asked, IsDotted, IsNotable, add_import, asked, delete_field, drop_import, rename}
pub use Rattle.proto_edit_entries.specs.Entries.{AreRising, ChangeOf, IsChange, inverted, turned_round}
pub use Rattle.proto_edit_entries.specs.Laws.{EntriesLeadBack, PutsAreWalked, PutsKeepPaths, PutsOnce, WalksPut}
pub use Rattle.proto_edit_entries.specs.Putting.{AreChangedTexts, ArePut, AreShortFiles, EachPuts, HasChange, HasNoChangedFile, IsChangedFile, IsNext, IsPut, PutsFile, with_texts}
