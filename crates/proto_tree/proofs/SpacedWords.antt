-- The words of a reference stand a dot apart (for the crates above).
use Rattle.std.proofs.Common.{◌≡◌, ℕ, zero, suc, ◌+◌, ◌*◌, ◌<◌, List, [], ◌∷◌, length, get_or, map, Option, Some, None, is_some, arith}
use Rattle.proto_tree.specs.declared.class.Class.TheVariants as class
use Rattle.proto_tree.specs.declared.tree.Behind.{Behind}
use Rattle.proto_tree.specs.Common.{Separated, word, flat_all, flat_behind, flat_words, Numbered, WordsStandApart}
use Rattle.proto_tree.specs.References.{dotted, first_of, word_token}

each_second : (bs : List (Behind ℕ)) (n : ℕ) → Numbered n (flat_all (flat_behind class.Dot word) bs)
    → (k other : ℕ) → k < length (map (λ b. b.item) bs) → get_or (map (λ b. b.item) bs) k other ≡ n + 1 + 2 * k
each_second [] n num k other lt = absurd (omega (arith, lt))
each_second (b ∷ bs) n num zero other lt = omega (arith, num.1.0)
each_second (b ∷ bs) n num (suc k) other lt = let r = each_second bs (suc (suc n)) num.1.1 k other (omega (arith, lt)) in omega (arith, r)

begins : (dot : Option ℕ) (d : Separated ℕ) (n : ℕ) → Numbered n (flat_words dot d) → first_of dot d ≡ n
begins None d n num = num.0
begins (Some dot) d n num = num.0

stands : (dot : Option ℕ) (d : Separated ℕ) (n : ℕ) → Numbered n (flat_words dot d)
    → (k other : ℕ) → k < length (dotted d) → get_or (dotted d) k other ≡ word_token n (is_some dot) k
stands None d n num zero other lt = omega (arith, num.0)
stands None d n num (suc k) other lt = let r = each_second d.rest (suc n) num.1 k other (omega (arith, lt)) in omega (arith, r)
stands (Some dot) d n num zero other lt = omega (arith, num.1.0)
stands (Some dot) d n num (suc k) other lt = let r = each_second d.rest (suc (suc n)) num.1.1 k other (omega (arith, lt)) in omega (arith, r)

pub words_stand_apart : WordsStandApart
words_stand_apart r n num = (begins r.dot r.words n num, stands r.dot r.words n num)
