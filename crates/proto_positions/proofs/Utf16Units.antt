-- Units of UTF-16 at the first bytes of characters.
use Rattle.std.proofs.Common.{◌≡◌, ℕ, ◌+◌, ◌/◌, ◌%◌, ◌<◌, ◌≤◌, Bool, true, false, ◌&&◌, cond, nat_lt, List, [], ◌∷◌, length, refl, ap, ◌∙◌, arith}
use Rattle.std.specs.List.{sum_by}
use Rattle.std.specs.Char.Escape.{encode_utf16}
use Rattle.std.specs.Str.{all_scalars, encode_utf8_all}
use Rattle.std.proofs.Math.Utf8.{encode, scalar}
use Rattle.std.proofs.lemmas.Bool.Decides.{nat_tests}
use Rattle.std.proofs.lemmas.List.Sums.{sum_by-append, sum_by_from}
use Rattle.std.specs.Prelude.{◌⊎◌}
use Rattle.std.proofs.Common.{inl, inr, ◌-◌}
use Rattle.proto_positions.specs.declared.encoding.Encoding.TheVariants.{Utf16}
use Rattle.proto_positions.specs.Positions.{units}
use Rattle.proto_positions.specs.TextEdits.{UnitsAreUtf16}

split : {A : Type 0} (b : Bool) (x y : A) → ((b ≡ true) × (cond b x y ≡ x)) ⊎ ((b ≡ false) × (cond b x y ≡ y))
split true x y = inl (refl, refl)
split false x y = inr (refl, refl)

abbrev u : ℕ → ℕ
u b = units Utf16 b

inner_adds : (b : ℕ) → u (128 + b % 64) ≡ 0
inner_adds b = let low : b % 64 < 64 = omega arith in grind (arith, nat_tests)

ascii_adds : (b : ℕ) → b < 128 → u b ≡ 1
ascii_adds b lt = grind (arith, nat_tests)

lead_adds : (b : ℕ) → 192 ≤ b → b < 240 → u b ≡ 1
lead_adds b ge lt = grind (arith, nat_tests)

fourth_adds : (b : ℕ) → 240 ≤ b → u b ≡ 2
fourth_adds b ge = grind (arith, nat_tests)

one_unit : (c : ℕ) → c < 65536 → length (encode_utf16 c) ≡ 1
one_unit c lt = elim (split (nat_lt c 65536) (c ∷ []) ((55296 + (c - 65536) / 1024) ∷ (56320 + (c - 65536) % 1024) ∷ [])) [
  | inl w ↦ ap length w.1
  | inr w ↦ absurd (grind (arith, nat_tests, w.0))
]

two_units : (c : ℕ) → 65536 ≤ c → length (encode_utf16 c) ≡ 2
two_units c ge = elim (split (nat_lt c 65536) (c ∷ []) ((55296 + (c - 65536) / 1024) ∷ (56320 + (c - 65536) % 1024) ∷ [])) [
  | inl w ↦ absurd (grind (arith, nat_tests, w.0))
  | inr w ↦ ap length w.1
]

one_char : (c : ℕ) → sum_by (units Utf16) (encode c) ≡ length (encode_utf16 c)
unfolding encode
one_char c =
    let four : List ℕ = (240 + c / 262144) ∷ (128 + (c / 4096) % 64) ∷ (128 + (c / 64) % 64) ∷ (128 + c % 64) ∷ [] in
    let three : List ℕ = (224 + c / 4096) ∷ (128 + (c / 64) % 64) ∷ (128 + c % 64) ∷ [] in
    let two : List ℕ = (192 + c / 64) ∷ (128 + c % 64) ∷ [] in
    let s : List ℕ → ℕ = λ (bs : List ℕ). sum_by (units Utf16) bs in
    elim (split (nat_lt c 128) (c ∷ []) (cond (nat_lt c 2048) two (cond (nat_lt c 65536) three four))) [
      | inl w ↦
          let small : c < 128 = grind (arith, nat_tests, w.0) in
          ap s w.1 ∙ omega (arith, ascii_adds c small, one_unit c (omega (arith, small)))
      | inr w ↦
          elim (split (nat_lt c 2048) two (cond (nat_lt c 65536) three four)) [
            | inl v ↦
                let small : c < 2048 = grind (arith, nat_tests, v.0) in
                ap s (w.1 ∙ v.1) ∙ omega (arith, lead_adds (192 + c / 64) (omega arith) (omega (arith, small)), inner_adds c, one_unit c (omega (arith, small)))
            | inr v ↦
                elim (split (nat_lt c 65536) three four) [
                  | inl t ↦
                      let small : c < 65536 = grind (arith, nat_tests, t.0) in
                      ap s (w.1 ∙ v.1 ∙ t.1) ∙ omega (arith, lead_adds (224 + c / 4096) (omega arith) (omega (arith, small)), inner_adds (c / 64), inner_adds c, one_unit c small)
                  | inr t ↦
                      let large : 65536 ≤ c = grind (arith, nat_tests, t.0) in
                      ap s (w.1 ∙ v.1 ∙ t.1) ∙ omega (arith, fourth_adds (240 + c / 262144) (omega arith), inner_adds (c / 4096), inner_adds (c / 64), inner_adds c, two_units c large)
                ]
          ]
    ]

both : (a b : Bool) → (a && b) ≡ true → b ≡ true
both true b is = is
both false b is = absurd cc

pub units_are_utf16 : UnitsAreUtf16
units_are_utf16 [] all = refl
units_are_utf16 (c ∷ cs) all =
    let rest = units_are_utf16 cs (both (scalar c) (all_scalars cs) all) in
    sum_by-append (units Utf16) (encode c) (encode_utf8_all cs)
    ∙ omega (arith, one_char c, rest, sum_by_from (λ (x : ℕ). length (encode_utf16 x)) (0 + length (encode_utf16 c)) cs)
