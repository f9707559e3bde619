-- A full name is a front and its last word (for the crates above).
use Rattle.std.proofs.Common.{◌≡◌, ℕ, true, List, [], ◌∷◌, ◌++◌, refl, sym, ◌∙◌, ap, append_assoc}
use Rattle.proto_text.proofs.Common.{is_run, run_is}
use Rattle.proto_names_rules.specs.Joined.{joined, IsPlain, ArePlain}
use Rattle.proto_names_outline.proofs.ReadTrees.{run_is_plain}

-- what stands before the last word
abbrev pub lead : List (List ℕ) → List ℕ
lead [] = []
lead (v ∷ rest) = v ++ 46 ∷ lead rest

pub joined_last : (x : List (List ℕ)) (w : List ℕ) → joined (x ++ w ∷ []) ≡ lead x ++ w
joined_last [] w = refl
joined_last (v ∷ []) w = sym (append_assoc v (46 ∷ []) w)
joined_last (v ∷ u ∷ rest) w = ap (λ l. v ++ 46 ∷ l) (joined_last (u ∷ rest) w) ∙ sym (append_assoc v (46 ∷ lead (u ∷ rest)) w)

pub plain_parts : (x : List (List ℕ)) (w : List ℕ) → ArePlain (x ++ w ∷ []) → ArePlain x × IsPlain w
plain_parts [] w h = (tt, h.0)
plain_parts (v ∷ x) w h = let r = plain_parts x w h.1 in ((h.0, r.0), r.1)

-- ---- a word is plain

pub word_is_plain : (w : List ℕ) → is_run w ≡ true → IsPlain w
word_is_plain w h = run_is_plain w (run_is w h)
