use Rattle.std.proofs.Common.{◌≡◌, ◌<◌, ◌++◌, All, AllPairs, drop, length, map, take}
use Rattle.proto_files.specs.GivenFiles.{files_of_as}
use Rattle.proto_edit_entries.specs.Putting.{with_texts}
use Rattle.proto_session_files.proofs.compiling.other_texts.Given as goal

abbrev pub invariant-loop-place : goal.invariant-loop-place
invariant-loop-place l = record {
  long : length l.files ≡ length l.seen;
  whole : with_texts l.files l.places.items (map (λ t. t.items) l.texts.items) ≡ take l.place (files_of_as l.profile l.seen) ++ drop l.place l.files;
  within : All (λ p. p < l.place) l.places.items;
  rising : AllPairs (λ a b. a < b) l.places.items;
  paired : length l.texts.items ≡ length l.places.items;
}
