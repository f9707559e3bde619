use Rattle.std.proofs.Common.{◌≡◌, ◌||◌, ℕ, List, [], map, drop, string_bytes}
use Rattle.std.specs.HashSet.{contains_text}
use Rattle.proto_text.specs.Texts.{word_at}
use Rattle.proto_edit_captures.specs.Overtaking.{fronts_from}
use Rattle.proto_edit_captures.proofs.PackageSets.{has_text}
use Rattle.proto_edit_captures.proofs.overtaking.add_fronts.Given as goal

abbrev pub invariant-loop-token : goal.invariant-loop-token
invariant-loop-token l = (text : List ℕ)
    → (contains_text l.packages text || has_text (fronts_from (string_bytes l.front) (map (word_at l.words) (drop l.token-index l.tokens))) text)
    ≡ (contains_text l.fn.packages text || has_text (fronts_from [] (map (word_at l.words) l.tokens)) text)
