-- Words that references begin with, told by the remainders of their keys.
use Rattle.std.proofs.Common.{◌≡◌, ℕ, ◌<◌, ◌==◌, Bool, true, false, List, [], ◌∷◌, ◌++◌, length, get_or, replicate, slice_set, sym, ◌∙◌, ap, inl, inr, arith, length-set, get_or-set_same}
use Rattle.std.specs.List.{list_any}
use Rattle.std.proofs.Math.Nat.{mod-lt}
use Rattle.std.proofs.lemmas.Bool.{both_ways, eqb-true, false_from_ne_true}
use Rattle.std.proofs.lemmas.List.{length-replicate}
use Rattle.std.proofs.lemmas.List.Elements.{Contains-append_cases}
use Rattle.proto_base.proofs.Common.{any_to, contains_cases}
use Rattle.proto_file_sets.proofs.Members.{others_stay_in}
use Rattle.proto_names_table.specs.declared.ids.Meant.{Meant}
use Rattle.proto_names_affected.specs.FileMeanings.{AreBegun, is_begun, place_of}

pub begun_none : (n : ℕ) → 0 < n → AreBegun (replicate n false) []
begun_none n some = record { some = omega (arith, some, length-replicate n false); each = λ m c. absurd (omega (arith, c.1)) }

pub place_within : (begun : List Bool) (key : ℕ) → 0 < length begun → place_of (length begun) key < length begun
place_within begun key some = mod-lt key some

-- a key that is noted
module _ (begun : List Bool) (key : ℕ) (some : 0 < length begun) where
  abbrev now : List Bool
  now = slice_set begun (place_of (length begun) key) true

  now_length : length now ≡ length begun
  now_length = length-set begun (place_of (length begun) key) true

  noted : is_begun now key ≡ true
  noted = ap (λ n. get_or now (place_of n key) false) now_length ∙ get_or-set_same begun (place_of (length begun) key) true false (place_within begun key some)

  still : (other : ℕ) → is_begun begun other ≡ true → is_begun now other ≡ true
  still other was = ap (λ n. get_or now (place_of n other) false) now_length ∙ others_stay_in begun (place_of (length begun) key) (place_of (length begun) other) was

  pub begun_still : (ms : List Meant) → AreBegun begun ms → AreBegun now ms
  begun_still ms are = record { some = omega (arith, some, now_length); each = λ m c. still m.first (are.each m c) }

  pub begun_more : (ms : List Meant) (m : Meant) → m.first ≡ key → AreBegun begun ms → AreBegun now (ms ++ m ∷ [])
  begun_more ms m is are = record {
    some = omega (arith, some, now_length);
    each = λ x c. elim (Contains-append_cases ms (m ∷ []) x c) [
      | inl old ↦ still x.first (are.each x old)
      | inr new ↦ elim (contains_cases m x [] new) [
        | inl same ↦ ap (λ (y : Meant). is_begun now y.first) (sym same) ∙ ap (is_begun now) is ∙ noted
        | inr none ↦ absurd (omega (arith, none.1))
      ]
    ];
  }

-- where a key is not noted, no reference begins with a word of it
pub none_begun : (begun : List Bool) (ms : List Meant) (key : ℕ) → AreBegun begun ms → is_begun begun key ≡ false → list_any (λ (m : Meant). m.first == key) ms ≡ false
none_begun begun ms key are unset = false_from_ne_true (list_any (λ (m : Meant). m.first == key) ms) (λ h.
    let x = any_to (λ (m : Meant). m.first == key) ms h in
    both_ways (is_begun begun key) unset (ap (is_begun begun) (sym (eqb-true x.0.first key x.2)) ∙ are.each x.0 x.1))
