use Rattle.std.proofs.Common.{◌≡◌, ℕ, ◌<◌, [], length, get_or, map}
use Rattle.proto_names_imports.proofs.SeenFiles.{MarksSight}
use Rattle.proto_names_imports.proofs.sight.all_seen.Given as goal

abbrev pub invariant-loop-file : goal.invariant-loop-file
invariant-loop-file l = record {
  len : length l.seen.items ≡ l.file;
  exact : (k : ℕ) → k < l.file → MarksSight (length l.imports) (map (λ v. v.items) l.imports) k (get_or l.seen.items k []);
}
