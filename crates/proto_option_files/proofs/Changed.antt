-- Files that are changed at some places (for the crates above).
use Rattle.std.proofs.Common.{◌≡◌, ℕ, ◌<◌, Bool, List, length, inl, inr, sym, ap, ◌∙◌, subst, arith}
use Rattle.proto_base.proofs.Common.{All-contains, contains_or_not, length-map}
use Rattle.proto_files.proofs.Common.{FileOf, file_at}
use Rattle.proto_names_affected.proofs.WordSets.{sizes_stay}
use Rattle.proto_names_affected.specs.FirstWords.{FirstsStay}
use Rattle.proto_names_update.specs.Edited.{AreSameBut}
use Rattle.proto_option_files.proofs.KeySets.{file_keys_stay}
use Rattle.proto_option_files.specs.OptionFiles.{AreOptionFiles, HasFileKeys, HaveFileKeys}

-- where what was noted stays, and the changed files are noted again, the sets are those of the files
pub still_theirs : (before files : List FileOf) (changed : List ℕ) (old new : List (List Bool))
    → AreSameBut changed before files → FirstsStay old new → HaveFileKeys files new changed → AreOptionFiles before old → AreOptionFiles files new
still_theirs before files changed old new same stay added theirs = record {
  sized = sizes_stay old new stay (length files) (λ k d l. theirs.sized k d l ∙ as_many);
  each = λ file lt. elim (contains_or_not changed file) [
    | inl c ↦ All-contains (λ k. HasFileKeys (file_at files k) new k) changed file added c
    | inr none ↦
        subst (λ (f : FileOf). HasFileKeys f new file) (same.others file lt none)
        (file_keys_stay (file_at before file) old new stay file (theirs.each file (omega (arith, lt, as_many))))
  ];
}
  where
    as_many : length before ≡ length files
    as_many = sym (length-map before (λ (f : FileOf). f.path)) ∙ ap length same.paths ∙ length-map files (λ (f : FileOf). f.path)
