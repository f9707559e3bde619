use Rattle.std.proofs.Common.{◌≡◌, ℕ, ◌<◌, All, length, map}
use Rattle.proto_files.specs.GivenFiles.{file_at}
use Rattle.proto_desc.specs.NewTexts.{IsReadText, read_text, with_old}
use Rattle.proto_desc.proofs.put_texts.put_back.Given as goal

abbrev pub invariant-loop-text : goal.invariant-loop-text
invariant-loop-text l = record {
  back : with_old (map read_text l.old.items) l.files ≡ with_old (map read_text l.initial.old.items) l.initial.files;
  len : length l.files ≡ length l.initial.files;
  places : All (λ t. t.place < length l.initial.files) l.old.items;
  languages : (k : ℕ) → (file_at l.files k).profile ≡ (file_at l.initial.files k).profile;
  read : All (IsReadText l.initial.files) l.old.items;
}

abbrev pub decreases-loop-text : goal.decreases-loop-text
decreases-loop-text l = goal.left-loop-text l
