use Rattle.std.proofs.Common.{map, take}
use Rattle.proto_edit_entries.specs.Entries.{change_of}
use Rattle.proto_edit_entries.proofs.TextPlaces.{AreChangedFiles}
use Rattle.proto_edit_entries.proofs.putting.changed_texts.Given as goal

abbrev pub invariant-loop-change : goal.invariant-loop-change
invariant-loop-change l = AreChangedFiles l.files (map change_of (take l.change-index l.changes)) l.places.items (map (λ t. t.items) l.texts.items)
