-- What segments are made of.
use Rattle.std.proofs.Common.{◌≡◌, ℕ, zero, suc, ◌<◌, ◌≤◌, Bool, true, false, not, eqb, ◌||◌, List, [], ◌∷◌, ◌++◌, length, get_or, refl, sym, ap, subst, ◌∙◌, inl, arith, decimal, append-nil}
use Rattle.proto_base.proofs.Common.{IsInRange, list_all, nat_tests, decimal_digit, decimal_nonempty, digits_decimal, first_decimal, IsNumeralModel, numerals_by_value, tells_by_index}
use Rattle.std.specs.Str.Parse.{digits_value}
use Rattle.proto_text.specs.Common.{Space, Digit, Quote, Step, GoesOn, Blank, Solid, TokenKind, Word, Number, Text, Punctuation, EachByte, class_of, extends_word, is_space, is_letter, is_digit, is_identifier, IsLexeme, EndsBefore, EndsByItself, is_plain, QuotedStandsForItself, TokenIsSegment, SpaceIsSegment, TokenBeforeSegment, DecimalIsNumber, Means, step_of, body_after, is_body, Lexeme}

space_class : (b : ℕ) → is_space b ≡ true → class_of b ≡ Space
unfolding class_of
space_class b e = rw e refl

pub space_is_segment : SpaceIsSegment
space_is_segment b e = (record { kind = Blank; bytes = b ∷ [] } ∷ [], λ rest. ((b, refl, space_class b e), tt, tt), refl, refl)

ends : (kind : TokenKind) (rest : List ℕ) → EndsByItself kind → EndsBefore (Solid kind) rest
ends Word rest f = absurd f
ends Number rest f = absurd f
ends Text rest f = tt
ends Punctuation rest f = tt

pub token_is_segment : TokenIsSegment
token_is_segment kind bytes is free = (record { kind = Solid kind; bytes = bytes } ∷ [], λ rest. (is, ends kind rest free, tt), sym (append-nil bytes), refl)

stops : (kind : TokenKind) (b : ℕ) (more : List ℕ) → is_identifier b ≡ false → EndsBefore (Solid kind) (b ∷ more)
stops Word b more e = e
stops Number b more e = e
stops Text b more e = tt
stops Punctuation b more e = tt

pub token_before_segment : TokenBeforeSegment
token_before_segment kind bytes b more ls is apart seg = (
  record { kind = Solid kind; bytes = bytes } ∷ seg.0,
  λ rest. (is, subst (λ (t : List ℕ). EndsBefore (Solid kind) (t ++ rest)) seg.2 (stops kind b (more ++ rest) apart), seg.1 rest),
  ap (λ (t : List ℕ). bytes ++ t) seg.2,
  ap (λ (t : List Lexeme). record { kind = kind; text = bytes } ∷ t) seg.3,
)

-- ---- plain text in quotes

none_of : (a b c d e : Bool) → not (a || b || c || d || e) ≡ true → (a ≡ false) × (b ≡ false) × (c ≡ false) × (d ≡ false) × (e ≡ false)
none_of false false false false false h = (refl, refl, refl, refl, refl)
none_of true b c d e h = absurd (cc)
none_of false true c d e h = absurd (cc)
none_of false false true d e h = absurd (cc)
none_of false false false true e h = absurd (cc)
none_of false false false false true h = absurd (cc)

plain_step : (b : ℕ) → is_plain b ≡ true → step_of false 34 b ≡ GoesOn false
plain_step b h =
    let n = none_of (eqb b 34) (eqb b 39) (eqb b 92) (eqb b 10) (eqb b 0) h in
    rw (n.0, n.2, n.3, n.4) refl

plain_body : (value : List ℕ) → EachByte is_plain value → is_body false 34 value ≡ true
plain_body [] h = refl
plain_body (b ∷ value) h = ap (λ (s : Step). body_after s (λ next. is_body next 34 value)) (plain_step b h.0) ∙ plain_body value h.1

pub plain_means : (value : List ℕ) → EachByte is_plain value → Means value value
plain_means [] h = refl
plain_means (b ∷ value) h =
    let n = none_of (eqb b 34) (eqb b 39) (eqb b 92) (eqb b 10) (eqb b 0) h.0 in
    (b ∷ [], value, refl, inl (refl, n.2), plain_means value h.1)

quote_class : class_of 34 ≡ Quote
unfolding class_of
quote_class = refl

pub quoted_stands_for_itself : QuotedStandsForItself
quoted_stands_for_itself value plain utf8 =
    let means = plain_means value plain in
    ((34, value, (quote_class, refl, plain_body value plain), (value, means, utf8)), (34, 34, value, refl, means))

-- ---- a number in decimal

all_decimal : IsNumeralModel (λ ds. (i : ℕ) → i < length ds → IsInRange 48 57 (get_or ds i 0)) (digits_value 10)
all_decimal = numerals_by_value (λ ds. (i : ℕ) → i < length ds → IsInRange 48 57 (get_or ds i 0)) tells_by_index

no_space : (b : ℕ) → 48 ≤ b → b ≤ 57 → is_space b ≡ false
no_space b lo hi = grind (arith, nat_tests)

no_letter : (b : ℕ) → 48 ≤ b → b ≤ 57 → is_letter b ≡ false
no_letter b lo hi = grind (arith, nat_tests)

is_decimal : (b : ℕ) → 48 ≤ b → b ≤ 57 → is_digit b ≡ true
is_decimal b lo hi = grind (arith, nat_tests)

digit_class : (b : ℕ) → 48 ≤ b → b ≤ 57 → class_of b ≡ Digit
unfolding class_of
digit_class b lo hi = rw (no_space b lo hi, no_letter b lo hi, is_decimal b lo hi) refl

each_extends : (ds : List ℕ) → ((i : ℕ) → i < length ds → IsInRange 48 57 (get_or ds i 0)) → EachByte is_identifier ds
each_extends [] h = tt
each_extends (d ∷ ds) h = let r = h 0 (omega arith) in (ap extends_word (digit_class d r.0 r.1), each_extends ds (λ i lt. h (suc i) (omega (arith, lt))))

all_digits : (ds : List ℕ) → ((i : ℕ) → i < length ds → IsInRange 48 57 (get_or ds i 0)) → list_all is_digit ds ≡ true
all_digits [] h = refl
all_digits (d ∷ ds) h = let r = h 0 (omega arith) in rw (is_decimal d r.0 r.1) (all_digits ds (λ i lt. h (suc i) (omega (arith, lt))))

not_zero : (b : ℕ) → 48 < b → eqb b 48 ≡ false
not_zero b lt = grind (arith, nat_tests)

positive_number : (ds : List ℕ) → 0 < length ds → 48 < get_or ds 0 0 → ((i : ℕ) → i < length ds → IsInRange 48 57 (get_or ds i 0)) → IsLexeme (Solid Number) ds
positive_number [] some first h = absurd (omega (arith, some))
positive_number (d ∷ ds) some first h =
    let r = h 0 (omega arith) in
    ((digit_class d r.0 r.1, each_extends ds (λ i lt. h (suc i) (omega (arith, lt)))), rw (not_zero d first) (all_digits (d ∷ ds) h))

zero_number : IsLexeme (Solid Number) (48 ∷ [])
zero_number = ((digit_class 48 (omega arith) (omega arith), tt), refl)

pub decimal_is_number : DecimalIsNumber
decimal_is_number zero small = subst (IsLexeme (Solid Number)) (sym (decimal_digit 0 (omega arith))) zero_number
decimal_is_number (suc n) small =
    positive_number (decimal (suc n)) (decimal_nonempty (suc n) small) (first_decimal (suc n) (omega arith) small) (digits_decimal all_decimal (suc n) small)
