-- Words joined by dots, one behind another (for the crates above).
use lib.Utf8.{encode}
use Rattle.std.proofs.Common.{◌≡◌, ℕ, List, [], ◌∷◌, ◌++◌, sym, ◌∙◌, ap, append_assoc, arith, flat_map, append-nil}
use Rattle.std.proofs.lemmas.Str.{encode_ascii}
use Rattle.proto_names_rules.specs.Joined.{joined}

-- the first word of a name, and the others, each behind a dot
pub joined_words : (w : List ℕ) (ws : List (List ℕ)) → joined (w ∷ ws) ≡ w ++ flat_map (λ v. 46 ∷ v) ws
joined_words w [] = sym (append-nil w)
joined_words w (v ∷ ws) = ap (λ (rest : List ℕ). w ++ 46 ∷ rest) (joined_words v ws)

-- a text with a dot and a word put behind it
pub word_behind : (text after begun word : List ℕ) → begun ≡ text ++ encode 46 → after ≡ begun ++ word → after ≡ text ++ 46 ∷ word
word_behind text after begun word dot e =
    e ∙ ap (λ (bytes : List ℕ). bytes ++ word) (dot ∙ ap (λ (bytes : List ℕ). text ++ bytes) (encode_ascii 46 (omega arith))) ∙ append_assoc text (46 ∷ []) word
