use Rattle.std.proofs.Common.{◌≡◌, ℕ, ◌<◌, [], All, get_or, length}
use Rattle.proto_file_sets.specs.FileSets.{IsIn}
use Rattle.proto_names_affected.specs.FirstWords.{FirstsStay}
use Rattle.proto_option_files.specs.OptionFiles.{OthersStay}
use Rattle.proto_option_files.proofs.option_files.insert_in_all.Given as goal

abbrev pub invariant-loop-place : goal.invariant-loop-place
invariant-loop-place l = record {
  within : All (λ set. l.file < length set) l.sets.items;
  stay : FirstsStay l.initial.sets.items l.sets.items;
  added : (place : ℕ) → place < l.place → IsIn (get_or l.sets.items place []) l.file;
  others : OthersStay l.initial.sets.items l.sets.items (λ other. other ≡ l.file);
}
