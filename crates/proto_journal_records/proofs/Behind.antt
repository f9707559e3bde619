-- What stands behind texts, one after another, and behind the items of an array.
use Rattle.std.proofs.Common.{◌≡◌, ◌≢◌, ℕ, ◌+◌, ◌<◌, ◌≤◌, ◌/◌, ◌%◌, List, [], ◌∷◌, ◌++◌, map, length, get_or, drop, Bor, Bool, true, cond, nat_lt, Option, None, Some, refl, sym, ap, ◌∙◌, subst, append_assoc, append-nil, ap₂, arith}
use Rattle.std.specs.Prelude.{IfSome, MatchOption}
use Rattle.std.specs.Char.{digit_char}
use Rattle.proto_base.proofs.Common.{append_cancel_left, drop_all, drop_more}
use borrow.Author.Tests.{le-ltb, lt-ltb}
use Rattle.json.specs.Print.{escape_byte, escape_letter}
use Rattle.serde_json.specs.Data.{Data}
use Rattle.serde_json.specs.View.{items_of}
use Rattle.serde_json.specs.Written.{comma_if, compact_text, items_text}
use Rattle.proto_journal_records.specs.Behind.{IsBehind}

abbrev Bytes : Type 0
Bytes = Option (Bor (List ℕ))

now_same : (a b : Bor (List ℕ)) → Some a ≡ Some b → a.now ≡ b.now
now_same a b e = cc

-- what `strip_prefix` tells
pub stripped : (text : List ℕ) (o : Bytes) (b : Bor (List ℕ)) (r : Bytes) → o ≡ Some b → MatchOption r ((more : List ℕ) → b.now ≢ text ++ more) (λ x. b.now ≡ text ++ x.now) → IsBehind text o r
stripped text None b r e m = cc
stripped text (Some a) b None e m = record { none = λ f. cc; some = λ more f. m more (sym (f ∙ now_same a b e)) }
stripped text (Some a) b (Some x) e m = record { none = λ f. cc; some = sym (now_same a b e ∙ m) }

-- behind no text stands all
pub behind_nothing : (o : Bytes) → IsBehind [] o o
behind_nothing None = record { none = λ e. e; some = tt }
behind_nothing (Some b) = record { none = λ e. e; some = refl }

both_some : (a b : List ℕ) (o p q : Bytes) → IsBehind a o p → IsBehind b p q
    → IfSome o (λ s. MatchOption q ((more : List ℕ) → (a ++ b) ++ more ≢ s.now) (λ r. (a ++ b) ++ r.now ≡ s.now))
both_some a b None p q h k = tt
both_some a b (Some s) None None h k = λ more e. h.some (b ++ more) (sym (append_assoc a b more) ∙ e)
both_some a b (Some s) None (Some r) h k = let e : Some r ≡ None = k.none refl in cc
both_some a b (Some s) (Some x) None h k = λ more e. k.some more (append_cancel_left a (b ++ more) x.now (sym (append_assoc a b more) ∙ e ∙ sym h.some))
both_some a b (Some s) (Some x) (Some r) h k = append_assoc a b r.now ∙ ap (λ t. a ++ t) k.some ∙ h.some

-- what stands behind two texts
pub behind_both : {a b : List ℕ} {o p q : Bytes} → IsBehind a o p → IsBehind b p q → IsBehind (a ++ b) o q
behind_both {a} {b} {o} {p} {q} h k = record { none = λ e. k.none (h.none e); some = both_some a b o p q h k }

-- a line behind whose beginning nothing is told is another text
pub not_behind : (text : List ℕ) (line : Bor (List ℕ)) → IsBehind text (Some line) None → text ≢ line.now
not_behind text line h = λ e. h.some [] (append-nil text ∙ e)

-- ---- a byte in a string

spelled : ℕ → ℕ → List ℕ
spelled x l = cond (nat_lt 0 l) (92 ∷ l ∷ []) (cond (nat_lt x 32) (92 ∷ 117 ∷ 48 ∷ 48 ∷ digit_char (x / 16) ∷ digit_char (x % 16) ∷ []) (x ∷ []))

zero_letter : (l : ℕ) → l ≤ 0 → 0 ≡ l
zero_letter l n = omega arith

pub short_spelled : (x l : ℕ) → l ≡ escape_letter x → 0 < l → 92 ∷ l ∷ [] ≡ escape_byte x
unfolding escape_byte spelled
short_spelled x l e h = sym (ap (λ t. cond t (92 ∷ l ∷ []) (cond (nat_lt x 32) (92 ∷ 117 ∷ 48 ∷ 48 ∷ digit_char (x / 16) ∷ digit_char (x % 16) ∷ []) (x ∷ []))) (lt-ltb 0 l h)) ∙ ap (spelled x) e

pub code_spelled : (x l h d : ℕ) → l ≡ escape_letter x → l ≤ 0 → x < 32 → h ≡ digit_char (x / 16) → d ≡ digit_char (x % 16) → 92 ∷ 117 ∷ 48 ∷ 48 ∷ h ∷ d ∷ [] ≡ escape_byte x
unfolding escape_byte spelled
code_spelled x l h d e n s eh ed =
    ap₂ (λ u v. 92 ∷ 117 ∷ 48 ∷ 48 ∷ u ∷ v ∷ []) eh ed
    ∙ sym (ap (λ t. cond t (92 ∷ 117 ∷ 48 ∷ 48 ∷ digit_char (x / 16) ∷ digit_char (x % 16) ∷ []) (x ∷ [])) (lt-ltb x 32 s)) ∙ ap (spelled x) (zero_letter l n ∙ e)

pub plain_spelled : (x l : ℕ) → l ≡ escape_letter x → l ≤ 0 → 32 ≤ x → x ∷ [] ≡ escape_byte x
unfolding escape_byte spelled
plain_spelled x l e n s = sym (ap (λ t. cond t (92 ∷ 117 ∷ 48 ∷ 48 ∷ digit_char (x / 16) ∷ digit_char (x % 16) ∷ []) (x ∷ [])) (le-ltb x 32 s)) ∙ ap (spelled x) (zero_letter l n ∙ e)

-- ---- the items of an array

-- the items that are left begin with the next one
pub behind_item : {X Y : Type 0} (f : X → Y) (g : Y → Data) (xs : List X) (i : ℕ) (x : X) (later : Bool) (o p q r : Bytes)
    → i < length xs → x ≡ get_or xs i x → IsBehind (comma_if later) o p → IsBehind (compact_text (g (f x))) p q
    → IsBehind (items_text true (items_of (map g (map f (drop (i + 1) xs))))) q r
    → IsBehind (items_text later (items_of (map g (map f (drop i xs))))) o r
behind_item {X} f g xs i x later o p q r lt is comma here more =
    let text : List X → List ℕ = λ ys. items_text later (items_of (map g (map f ys))) in
    subst (λ t. IsBehind t o r) (sym (ap text (drop_more xs i x lt ∙ ap (λ (y : X). y ∷ drop (i + 1) xs) (sym is)))) (behind_both comma (behind_both here more))

-- and behind the last one the array ends
pub behind_end : {X Y : Type 0} (f : X → Y) (g : Y → Data) (xs : List X) (i : ℕ) (later : Bool) (o r : Bytes)
    → length xs ≤ i → IsBehind (93 ∷ []) o r → IsBehind (items_text later (items_of (map g (map f (drop i xs))))) o r
behind_end {X} f g xs i later o r past end =
    let text : List X → List ℕ = λ ys. items_text later (items_of (map g (map f ys))) in
    subst (λ t. IsBehind t o r) (sym (ap text (drop_all i xs past))) end
