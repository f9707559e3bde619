-- Words that are plain.
use Rattle.std.proofs.Common.{◌≡◌, ℕ, Bool, true, false, ◌==◌, List, [], ◌∷◌, length, refl, sym, ◌∙◌, ap, subst, arith, not, bytes_eq}
use Rattle.proto_base.proofs.Common.{list_any, bytes_eq-Decides}
use Rattle.proto_text.proofs.Common.{one_token_list, words, AreTokens}
use Rattle.proto_text.specs.declared.lexer.Token.{Token}
use Rattle.proto_names_rules.specs.Joined.{IsPlain, ArePlain}

pub plain : (b : ℕ) (w : List ℕ) → list_any (λ x. x == 46) (b ∷ w) ≡ false → IsPlain (b ∷ w)
plain b w h = (h, λ e. absurd (omega (arith, ap length e)))

same : (b : Bool) → false ≡ not b → b ≡ true
same true h = refl
same false h = h

-- a word that was found to be this one
pub word_is : (x y : List ℕ) → false ≡ not (bytes_eq x y) → x ≡ y
word_is x y h = (bytes_eq-Decides x y).0 (same (bytes_eq x y) h)

-- a word that is plain among some tokens of a text is so among any
pub plain_at : (text : List ℕ) (mine tokens : List Token) → AreTokens text mine → AreTokens text tokens → (i : ℕ) (word : List ℕ) → IsPlain word → words text mine i ≡ word → ArePlain (words text tokens i ∷ [])
plain_at text mine tokens a b i word p e = (subst IsPlain (sym e ∙ ap (λ (ts : List Token). words text ts i) (one_token_list text mine tokens a b)) p, tt)
