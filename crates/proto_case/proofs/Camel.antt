-- Camel case, from one `_` to the next; and a raised byte is another (for the crates above).
use Rattle.std.proofs.Common.{get_or, length, suc, ◌≡◌, ◌≢◌, ℕ, ◌-◌, ◌<◌, ◌≤◌, Bool, true, false, cond, ◌==◌, List, [], ◌∷◌, ◌++◌, refl, sym, ap, ◌∙◌, if◌then◌else◌, ◌⊎◌, inl, inr, arith, append-nil, append_assoc, nat_lt, eqb-true, le-ltb, ltb-false, ltb-true}
use Rattle.proto_base.proofs.Common.{to_ascii_uppercase, cases_Bool, cases_lt, cond-false, false_from_ne_true}
use Rattle.std.proofs.lemmas.Str.{encode_ascii, inside_one, len_utf8_bounds, length-encode}
use lib.Utf8.{encode}
use Rattle.proto_case.specs.Camel.{camel_from}

other : (b : ℕ) → b ≢ 95 → (b == 95) ≡ false
other b ne = elim (cases_Bool (b == 95)) [
  | inl e ↦ absurd (ne (eqb-true b 95 e))
  | inr e ↦ e
]

-- a byte that is no `_`
one : (up : Bool) (b : ℕ) (rest : List ℕ) → (b == 95) ≡ false → camel_from up (b ∷ rest) ≡ (if up then to_ascii_uppercase b else b) ∷ camel_from false rest
one up b rest ne = cond-false (b == 95) (camel_from true rest) ((if up then to_ascii_uppercase b else b) ∷ camel_from false rest) ne

upper_high : (b : ℕ) → 128 ≤ b → to_ascii_uppercase b ≡ b
upper_high b h = cond-false (nat_lt b 97) b (cond (nat_lt b 123) (b - 32) b) (le-ltb b 97 (omega (arith, h))) ∙ cond-false (nat_lt b 123) (b - 32) b (le-ltb b 123 (omega (arith, h)))

upper_low : (b : ℕ) → b < 128 → to_ascii_uppercase b < 128
upper_low b h = let l : to_ascii_uppercase b ≤ b = grind arith in omega (arith, h, l)

-- bytes none of which is a `_`
abbrev pub HasNoLine : List ℕ → Type 0
HasNoLine bs = (i : ℕ) → i < length bs → get_or bs i 0 ≢ 95

line_free : (before rest : List ℕ) → HasNoLine before → camel_from false (before ++ rest) ≡ before ++ camel_from false rest
line_free [] rest h = refl
line_free (b ∷ bs) rest h = one false b (bs ++ rest) (other b (h 0 (omega arith))) ∙ ap (λ (xs : List ℕ). b ∷ xs) (line_free bs rest (λ i l. h (suc i) (omega (arith, l))))

high_bytes : (c i : ℕ) → 128 ≤ c → i < length (encode c) → 128 ≤ get_or (encode c) i 0
high_bytes c i big l = elim (cases_lt (get_or (encode c) i 0) 128) [
  | inl low ↦ absurd (omega (arith, big, low, inside_one c [] (encode c) i (sym (append-nil (encode c))) l low))
  | inr h ↦ h
]

high_part : (bs rest : List ℕ) → 0 < length bs → ((i : ℕ) → i < length bs → 128 ≤ get_or bs i 0) → camel_from true (bs ++ rest) ≡ bs ++ camel_from false rest
high_part [] rest l h = absurd (omega (arith, l))
high_part (b ∷ bs) rest l h =
    one true b (bs ++ rest) (other b (λ e. absurd (omega (arith, e, h 0 (omega arith)))))
    ∙ ap (λ (d : ℕ). d ∷ camel_from false (bs ++ rest)) (upper_high b (h 0 (omega arith)))
    ∙ ap (λ (xs : List ℕ). b ∷ xs) (line_free bs rest (λ i m e. absurd (omega (arith, e, h (suc i) (omega (arith, m))))))

-- a character that is no `_`, behind one
raised_char : (c : ℕ) (rest : List ℕ) → c ≢ 95 → camel_from true (encode c ++ rest) ≡ encode (to_ascii_uppercase c) ++ camel_from false rest
raised_char c rest ne = elim (cases_lt c 128) [
  | inl low ↦
      ap (λ (bs : List ℕ). camel_from true (bs ++ rest)) (encode_ascii c low) ∙ one true c rest (other c ne)
      ∙ ap (λ (bs : List ℕ). bs ++ camel_from false rest) (sym (encode_ascii (to_ascii_uppercase c) (upper_low c low)))
  | inr big ↦
      high_part (encode c) rest (omega (arith, length-encode c, (len_utf8_bounds c).0)) (λ i l. high_bytes c i big l)
      ∙ ap (λ (d : ℕ). encode d ++ camel_from false rest) (sym (upper_high c big))
]

-- what a name is with one more of these
pub raised_step : (c : ℕ) (name pushed word rest : List ℕ) → c ≢ 95 → word ≡ encode c ++ rest → pushed ≡ name ++ encode (to_ascii_uppercase c) → pushed ++ camel_from false rest ≡ name ++ camel_from true word
raised_step c name pushed word rest ne is p =
    ap (λ (bs : List ℕ). bs ++ camel_from false rest) p ∙ append_assoc name (encode (to_ascii_uppercase c)) (camel_from false rest)
    ∙ ap (λ (bs : List ℕ). name ++ bs) (sym (ap (camel_from true) is ∙ raised_char c rest ne))

pub line_step : (name before behind rest pushed new left all : List ℕ) → HasNoLine before → rest ≡ before ++ 95 ∷ behind → pushed ≡ name ++ before → new ++ camel_from false left ≡ pushed ++ camel_from true behind
    → name ++ camel_from false rest ≡ all → new ++ camel_from false left ≡ all
line_step name before behind rest pushed new left all free is p n made =
    n ∙ ap (λ (bs : List ℕ). bs ++ camel_from true behind) p ∙ append_assoc name before (camel_from true behind)
    ∙ ap (λ (bs : List ℕ). name ++ bs) (sym (ap (camel_from false) is ∙ line_free before (95 ∷ behind) free)) ∙ made

pub line_end : (name rest pushed all : List ℕ) → HasNoLine rest → pushed ≡ name ++ rest → name ++ camel_from false rest ≡ all → pushed ≡ all
line_end name rest pushed all free p made =
    let same : camel_from false rest ≡ rest = ap (camel_from false) (sym (append-nil rest)) ∙ line_free rest [] free ∙ append-nil rest in
    p ∙ ap (λ (bs : List ℕ). name ++ bs) (sym same) ∙ made

-- a byte that is no upper-case letter comes of no other
pub no_upper : (c : ℕ) → (c < 65) ⊎ (90 < c) → (b : ℕ) → (b == c) ≡ false → (to_ascii_uppercase b == c) ≡ false
no_upper c out b h = go (nat_lt b 97) (nat_lt b 123) refl refl
  where
    go : (x y : Bool) → nat_lt b 97 ≡ x → nat_lt b 123 ≡ y → (cond x b (cond y (b - 32) b) == c) ≡ false
    go true y ex ey = h
    go false false ex ey = h
    go false true ex ey = false_from_ne_true (b - 32 == c) (λ q.
        let d : b - 32 ≡ c = eqb-true (b - 32) c q in
        let low = ltb-false b 97 ex in
        let high = ltb-true b 123 ey in
        elim out [ inl l ↦ absurd (omega (arith, d, low, l)) | inr l ↦ absurd (omega (arith, d, high, l)) ])
