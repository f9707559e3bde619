-- The change of a file by one splice, by the lengths of its two texts.
use Rattle.std.proofs.Common.{◌≡◌, ℕ, ◌+◌, ◌-◌, [], ◌∷◌, length, ap, arith}
use Rattle.proto_text.specs.Edits.{Edit}
use Rattle.proto_files.specs.GivenFiles.{FileOf}
use Rattle.proto_edit_entries.specs.Entries.{ChangeOf}
use Rattle.proto_edit_rules.specs.Statements.{length_with, one_change}

length_whole : (f : FileOf) (e : Edit) → length_with f e ≡ (length f.bytes + length e.new) - length e.old
length_whole f e = omega arith

change_whole : (f : FileOf) (e : Edit) → one_change f e ≡ (let c : ChangeOf = record {
  path = f.path;
  before = length f.bytes;
  after = (length f.bytes + length e.new) - length e.old;
  splices = e ∷ [];
} in c ∷ [])
change_whole f e =
    ap (λ (n : ℕ). let c : ChangeOf = record { path = f.path; before = length f.bytes; after = n; splices = e ∷ [] } in c ∷ []) (length_whole f e)
