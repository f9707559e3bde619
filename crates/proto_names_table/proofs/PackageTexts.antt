-- The words of a package, joined one after another.
use Rattle.std.proofs.Common.{◌≡◌, ℕ, zero, suc, ◌+◌, ◌<◌, List, [], ◌∷◌, ◌++◌, length, get_or, map, take, if◌then◌else◌, refl, sym, ◌∙◌, ap, arith, append_assoc}
use Rattle.std.specs.Prelude.{◌==◌}
use Rattle.std.specs.Cow.{cow_str_bytes}
use Rattle.std.proofs.lemmas.Bool.{cond-false, eqb-true, false_from_ne_true}
use Rattle.proto_names_rules.specs.Joined.{joined}
use Rattle.proto_names_table.specs.Common.{Spelled}

-- the bytes of a declaration's last word
abbrev pub word_of : Spelled → List ℕ
word_of s = cow_str_bytes s.word

joined_last : (v : List ℕ) (ws : List (List ℕ)) (w : List ℕ) → joined ((v ∷ ws) ++ w ∷ []) ≡ joined (v ∷ ws) ++ 46 ∷ w
joined_last v [] w = refl
joined_last v (u ∷ ws) w = ap (λ z. v ++ 46 ∷ z) (joined_last u ws w) ∙ sym (append_assoc v (46 ∷ joined (u ∷ ws)) (46 ∷ w))

front_next : (ss : List Spelled) (k : ℕ) (s : Spelled) → k < length ss → s ≡ get_or ss k s → map word_of (take (k + 1) ss) ≡ map word_of (take k ss) ++ word_of s ∷ []
front_next [] k s l e = absurd (omega (arith, l))
front_next (x ∷ xs) zero s l e = ap (λ z. word_of z ∷ []) (sym e)
front_next (x ∷ xs) (suc k) s l e =
    let n : suc k + 1 ≡ suc (k + 1) = omega arith in
    ap (λ z. map word_of (take z (x ∷ xs))) n ∙ ap (λ z. word_of x ∷ z) (front_next xs k s (omega (arith, l)) e)

-- the text of the first words, and one more
pub text_next : (ss : List Spelled) (k : ℕ) (s : Spelled) (text : List ℕ) → k < length ss → s ≡ get_or ss k s → text ≡ joined (map word_of (take k ss))
    → text ++ (if k == 0 then word_of s else 46 ∷ word_of s) ≡ joined (map word_of (take (k + 1) ss))
text_next [] k s text l e is = absurd (omega (arith, l))
text_next (x ∷ xs) zero s text l e is = ap (λ z. z ++ word_of s) is ∙ sym (ap joined (front_next (x ∷ xs) zero s l e))
text_next (x ∷ xs) (suc k) s text l e is =
    ap (λ z. text ++ z) (cond-false (suc k == 0) (word_of s) (46 ∷ word_of s) (false_from_ne_true (suc k == 0) (λ q. omega (arith, eqb-true (suc k) 0 q))))
    ∙ ap (λ z. z ++ 46 ∷ word_of s) is
    ∙ sym (joined_last (word_of x) (map word_of (take k xs)) (word_of s))
    ∙ sym (ap joined (front_next (x ∷ xs) (suc k) s l e))
