-- What proofs of this crate name of its own definitions, passed on from one place.
-- Declares nothing.
pub use Rattle.proto_edit_captures.specs.FoundTargets.{IsTargetOf, IsFoundTarget, IsNoTarget, IsNotAllowed}
pub use Rattle.proto_edit_captures.specs.Capturing.{bytes_before, captures_at, captures_use, captures_words, first_now, fit_of, is_cons, shown_from, stands_first}
pub use Rattle.proto_edit_captures.specs.FirstCaptured.{AreNewNames, IsFirstCaptured, IsFirstIn, IsRenameOf, captures_by, first_passing}
pub use Rattle.proto_edit_captures.specs.FirstKeys.{begins, entry_or_new, first_keys_of, has_to_be_asked}
pub use Rattle.proto_edit_captures.specs.Looked.{HasDeclared, HasText, HasUnmoved, IsNotDeclared}
pub use Rattle.proto_edit_captures.specs.NewTexts.{NewTexts, entry_words, is_new_by, is_new_word, texts_by, texts_of}
pub use Rattle.proto_edit_captures.specs.Overtaking.{IsFirstOvertaken, Overtakes, SeesMarked, TellsPackages, fits_seen, is_marked, sees_name, overtakes_by, overtakes_use, overtakes_words, sees_text}
pub use Rattle.proto_edit_captures.specs.ShownAnew.{IsDeclaredName, shows_anew, shows_beside, shows_entry}
pub use Rattle.proto_edit_captures.specs.ShownTexts.{entry_shown_if, first_fits, kind_fits, kind_named, shown_below, shown_beside, shows_fitting}
pub use Rattle.proto_edit_captures.specs.declared.rename_target.RenameTarget.{RenameTarget}
pub use Rattle.proto_edit_captures.specs.declared.scope.Fit.{Fit}
