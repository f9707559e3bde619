use Rattle.std.proofs.Common.{◌≡◌, ℕ, ◌≤◌, take}
use Rattle.proto_tree.specs.Place.{open_in}
use Rattle.proto_tree.proofs.files.too_deep.Given as goal

abbrev pub invariant-loop-i : goal.invariant-loop-i
invariant-loop-i l = record { now : open_in (take l.i l.tokens) ≡ l.depth; before : (m : ℕ) → m ≤ l.i → open_in (take m l.tokens) ≤ 32 }
