-- What proofs of the crates above name of this crate, passed on from one place. Declares nothing.
pub use Rattle.proto_edit_entries.proofs.Puts.{IsEven, contains_none, entries_lead_back, find_change, measured_is_even, put_back, puts_are_once}
pub use Rattle.proto_edit_entries.proofs.TextPlaces.{few_changes}
pub use Rattle.proto_edit_entries.proofs.Walks.{put_by_paths, put_in_order, puts_keep_paths, rises_from, rising_back, still_files, too_long}
pub use Rattle.proto_edit_entries.specs.EditsAsked.{Asked, IsDotted, IsNotable, add_import, asked, delete_field, drop_import, rename}
pub use Rattle.proto_edit_entries.specs.Entries.{AreRising, ChangeOf, HasLengths, IsChange, IsEntry, IsMeasured, change_of, inverted, turned_round}
pub use Rattle.proto_edit_entries.specs.Putting.{AreChangedTexts, ArePut, AreShortFiles, EachPuts, IsChangedText, IsPut, PutsFile, with_texts}
