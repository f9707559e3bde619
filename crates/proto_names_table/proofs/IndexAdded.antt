-- What is looked up, with a row more.
use Rattle.std.proofs.Common.{◌≡◌, ◌≢◌, ℕ, ◌<◌, ◌≤◌, Bool, true, false, ◌&&◌, ◌⊎◌, List, [], ◌∷◌, ◌++◌, length, get_or, position, Option, Some, None, refl, sym, ◌∙◌, ap, inl, inr, arith, cond, string_bytes, String, Result, Ok, Err, OnOk}
use Rattle.std.specs.Prelude.{◌==◌}
use Rattle.std.specs.Option.{option_and_then}
use Rattle.std.specs.List.{All}
use Rattle.std.specs.Str.{bytes_eq}
use Rattle.std.specs.declared.alloc.Global.{Global}
use Rattle.std.proofs.lemmas.Bool.{cases_Bool, cond-true, cond-false, eq-eqb, eqb-true, false_from_ne_true, both_ways, true≢false}
use Rattle.std.proofs.lemmas.List.Elements.{All-push}
use Rattle.std.proofs.lemmas.List.Quantifiers.{position-Some}
use Rattle.std.proofs.lemmas.List.Sums.{fails_before_first}
use Rattle.std.specs.List.{list_any}
use Rattle.indexmap.specs.IndexSet.{insert_key}
use Rattle.proto_base.proofs.Lists.{any_to}
use Rattle.std.proofs.lemmas.Slice.Eq.{bytes_eq-Decides}
use Rattle.proto_names_table.specs.declared.index.Below.{Below}
use Rattle.proto_names_table.specs.Indexes.{is_below_number, word_place}
use Rattle.proto_names_table.proofs.Positions.{none_end, nowhere, push_other, push_last}

same_word : (v w : List ℕ) → bytes_eq v w ≡ true → v ≡ w
same_word v w h = (bytes_eq-Decides v w).0 h

word_same : (v w : List ℕ) → v ≡ w → bytes_eq v w ≡ true
word_same v w h = (bytes_eq-Decides v w).1 h

-- ---- words

-- a word more is found behind the others, and these where they were
pub word_last : (words : List (String Global)) (key : String Global) (word : List ℕ) → string_bytes key ≡ word → word_place words word ≡ None → word_place (words ++ key ∷ []) word ≡ Some (length words)
word_last words key word is none = push_last (λ k. bytes_eq word (string_bytes k)) words key none (word_same word (string_bytes key) (sym is))

pub word_other : (words : List (String Global)) (key : String Global) (word : List ℕ) → string_bytes key ≡ word → (v : List ℕ) → v ≢ word → word_place (words ++ key ∷ []) v ≡ word_place words v
word_other words key word is v ne = push_other (λ k. bytes_eq v (string_bytes k)) words key (false_from_ne_true (bytes_eq v (string_bytes key)) (λ q. ne (same_word v (string_bytes key) q ∙ is)))

-- two words at one place are one
pub one_place : (words : List (String Global)) (v w : List ℕ) (k : ℕ) → word_place words v ≡ Some k → word_place words w ≡ Some k → v ≡ w
one_place [] v w k a b = absurd (cc)
one_place (x ∷ xs) v w k a b =
    let p = position-Some (λ y. bytes_eq v (string_bytes y)) (x ∷ xs) k x a in
    let q = position-Some (λ y. bytes_eq w (string_bytes y)) (x ∷ xs) k x b in
    same_word v (string_bytes (get_or (x ∷ xs) k x)) p.1 ∙ sym (same_word w (string_bytes (get_or (x ∷ xs) k x)) q.1)

-- ---- rows

-- rows whose words are all below a number have none of a word past it
none_past : (rows : List Below) (count above word : ℕ) → All (λ b. b.word < count) rows → count ≤ word → position (is_below_number above word) rows ≡ None
none_past rows count above word within past = nowhere (is_below_number above word) rows (λ k d l. false_from_ne_true (is_below_number above word (get_or rows k d)) (λ q.
    let e = eqb-true word (get_or rows k d).word (and_second (above == (get_or rows k d).above) (word == (get_or rows k d).word) q) in
    omega (arith, within k d l, past, e)))
  where
    and_second : (a b : Bool) → (a && b) ≡ true → b ≡ true
    and_second true b h = h
    and_second false b h = absurd (true≢false (sym h))

pub first_false : (a b : Bool) → a ≡ false → (a && b) ≡ false
first_false a b h = ap (λ z. z && b) h

pub second_false : (a b : Bool) → b ≡ false → (a && b) ≡ false
second_false true b h = h
second_false false b h = refl

pub both_true : (a b : Bool) → a ≡ true → b ≡ true → (a && b) ≡ true
both_true a b h k = ap (λ z. z && b) h ∙ k

-- The row of a word below a number that had none, behind the others: it is looked up there, and all else as before.
module _ (words after : List (String Global)) (keys : List Below) (above w : ℕ) (word : List ℕ)
    (there : word_place after word ≡ Some w)
    (grown : (after ≡ words) ⊎ ((w ≡ length words) × (word_place words word ≡ None)))
    (others : (v : List ℕ) → v ≢ word → word_place after v ≡ word_place words v)
    (within : All (λ (b : Below). b.word < length words) keys)
    (new : option_and_then (λ x. position (is_below_number above x) keys) (word_place words word) ≡ None) where
  abbrev Now : ℕ → ℕ → Option ℕ
  Now p x = position (is_below_number p x) (keys ++ record { above = above; word = w } ∷ [])

  abbrev Was : ℕ → ℕ → Option ℕ
  Was p x = position (is_below_number p x) keys

  was_word : (p : ℕ) → option_and_then (Was p) (word_place words word) ≡ Was p w
  was_word p = elim grown [
    | inl same ↦ ap (option_and_then (Was p)) (sym (ap (λ z. word_place z word) same) ∙ there)
    | inr g ↦ ap (option_and_then (Was p)) g.1 ∙ sym (none_past keys (length words) p w within (omega (arith, g.0)))
  ]

  pub look_added : (p : ℕ) (v : List ℕ) → option_and_then (Now p) (word_place after v) ≡ cond ((above == p) && bytes_eq word v) (Some (length keys)) (option_and_then (Was p) (word_place words v))
  look_added p v = elim (cases_Bool (bytes_eq word v)) [
    | inl same ↦
        let e : word ≡ v = same_word word v same in
        let at : word_place after v ≡ Some w = ap (word_place after) (sym e) ∙ there in
        let was : option_and_then (Was p) (word_place words v) ≡ Was p w = ap (λ z. option_and_then (Was p) (word_place words z)) (sym e) ∙ was_word p in
        elim (cases_Bool (above == p)) [
          | inl here ↦
              let q : above ≡ p = eqb-true above p here in
              let none : Was p w ≡ None = ap (λ z. Was z w) (sym q) ∙ sym (was_word above) ∙ new in
              let hit : is_below_number p w (record { above = above; word = w }) ≡ true = both_true (p == above) (w == w) (eq-eqb p above (sym q)) (eq-eqb w w refl) in
              ap (option_and_then (Now p)) at ∙ push_last (is_below_number p w) keys (record { above = above; word = w }) none hit
              ∙ sym (cond-true ((above == p) && bytes_eq word v) (Some (length keys)) (option_and_then (Was p) (word_place words v)) (both_true (above == p) (bytes_eq word v) here same))
          | inr elsewhere ↦
              let miss : is_below_number p w (record { above = above; word = w }) ≡ false = first_false (p == above) (w == w) (false_from_ne_true (p == above) (λ q. both_ways (above == p) elsewhere (eq-eqb above p (sym (eqb-true p above q))))) in
              ap (option_and_then (Now p)) at ∙ push_other (is_below_number p w) keys (record { above = above; word = w }) miss ∙ sym was
              ∙ sym (cond-false ((above == p) && bytes_eq word v) (Some (length keys)) (option_and_then (Was p) (word_place words v)) (first_false (above == p) (bytes_eq word v) elsewhere))
        ]
    | inr differ ↦
        let ne : v ≢ word = λ q. both_ways (bytes_eq word v) differ (word_same word v (sym q)) in
        go (word_place words v) refl ne
        ∙ sym (cond-false ((above == p) && bytes_eq word v) (Some (length keys)) (option_and_then (Was p) (word_place words v)) (second_false (above == p) (bytes_eq word v) differ))
  ]
    where
      go : (o : Option ℕ) → word_place words v ≡ o → v ≢ word → option_and_then (Now p) (word_place after v) ≡ option_and_then (Was p) (word_place words v)
      go None e ne = ap (option_and_then (Now p)) (others v ne ∙ e) ∙ sym (ap (option_and_then (Was p)) e)
      go (Some x) e ne =
          let apart : (x == w) ≡ false = false_from_ne_true (x == w) (λ q. ne (one_place after v word w (others v ne ∙ e ∙ ap Some (eqb-true x w q)) there)) in
          ap (option_and_then (Now p)) (others v ne ∙ e)
          ∙ push_other (is_below_number p x) keys (record { above = above; word = w }) (second_false (p == above) (x == w) apart)
          ∙ sym (ap (option_and_then (Was p)) e)

  pub none_here : Was above w ≡ None
  none_here = sym (was_word above) ∙ new

  -- the words of all rows are there
  pub words_there : length words ≤ length after → w < length after → All (λ (b : Below). b.word < length after) (keys ++ record { above = above; word = w } ∷ [])
  words_there long l = All-push (λ (b : Below). b.word < length after) keys (record { above = above; word = w }) (λ k d lk. omega (arith, long, within k d lk)) l

-- ---- keys

-- a new key goes last
pub new_last : {K : Type 0} (eq : K → K → Bool) (ks : List K) (k : K) → position (eq k) ks ≡ None → insert_key eq ks k ≡ ks ++ k ∷ []
new_last eq ks k none = cond-false (list_any (eq k) ks) ks (ks ++ k ∷ []) (none_any eq ks k none)
  where
    none_any : {K : Type 0} (eq : K → K → Bool) (ks : List K) (k : K) → position (eq k) ks ≡ None → list_any (eq k) ks ≡ false
    none_any eq ks k none = false_from_ne_true (list_any (eq k) ks) (λ q.
        let a = any_to (eq k) ks q in
        both_ways (eq k a.0) (ap (eq k) (sym a.1.2) ∙ fails_before_first (eq k) ks a.1.0 a.0 (omega (arith, a.1.1, none_end (eq k) ks none))) a.2)

pub from_ok : {A E P : Type 0} (r : Result A E) (x : A) → r ≡ Ok x → OnOk r P → P
from_ok (Ok y) x e p = p
from_ok (Err y) x e p = absurd (cc)

pub place_within : (words : List (String Global)) (v : List ℕ) (k : ℕ) → word_place words v ≡ Some k → k < length words
place_within [] v k h = absurd (cc)
place_within (x ∷ xs) v k h = (position-Some (λ y. bytes_eq v (string_bytes y)) (x ∷ xs) k x h).0
