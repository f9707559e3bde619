use Rattle.std.proofs.Common.{◌≡◌, ◌∷◌, ◌++◌, map, drop, string_bytes, flat_map}
use Rattle.proto_names_rules.specs.Joined.{joined}
use Rattle.proto_ast.specs.Scenes.{text}
use Rattle.proto_desc.proofs.head.joined_words.Given as goal

abbrev pub invariant-loop-word : goal.invariant-loop-word
invariant-loop-word l = string_bytes l.name ++ flat_map (λ w. 46 ∷ w) (map (text l.scene) (drop l.word-index l.rest)) ≡ joined (map (text l.scene) (l.fn.first ∷ l.rest))
