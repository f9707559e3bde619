use Rattle.std.proofs.Common.{◌≡◌, ℕ, ◌<◌, [], All, get_or, length}
use Rattle.proto_names_affected.specs.FirstWords.{HasFirsts}
use Rattle.proto_names_affected.proofs.ChangedFirsts.{lists_of}
use Rattle.proto_names_affected.proofs.first_words.FirstWords.of.Given as goal

abbrev pub invariant-loop-file : goal.invariant-loop-file
invariant-loop-file l = record {
  sized : All (λ set. length set ≡ length l.meant) l.firsts;
  each : (k : ℕ) → k < l.file → HasFirsts l.firsts k (get_or (lists_of l.meant) k []);
}
