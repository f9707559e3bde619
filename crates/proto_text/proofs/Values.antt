-- The value of a string token is the one that is found from left to right (for the crates above).
use Rattle.std.proofs.Common.{◌≡◌, ℕ, zero, suc, ◌-◌, ◌<◌, ◌≤◌, Bool, true, eqb, eq-eqb, List, [], ◌∷◌, ◌++◌, length, take, drop, Option, Some, None, refl, sym, ap, subst, ◌∙◌, arith, IsTrue, ◌↔◌, option_map, IsUtf8, take_at, drop_at, length-append, eqb-true}
use Rattle.proto_base.proofs.Common.{same_from_push, nil_from_length, same_from_decides, bytes_eq-Decides}
use Rattle.proto_text.specs.Strings.{IsString, IsUnit, Means, unit_at}
use Rattle.proto_text.specs.Values.{StandsFor, OneValue, StringsHaveValues, unit_then, meaning_behind, value_of, ValueIsValueOf, is_value, says}
use Rattle.proto_text.proofs.Units.{unit_sound, unit_again, unit_some, some_is, only_meaning}

abbrev some_of : ℕ × ℕ → Option (ℕ × ℕ)
some_of x = Some x

abbrev some_value : List ℕ → Option (List ℕ)
some_value x = Some x

-- ---- one value

-- a body is determined by the text around it
same_body : (a b : ℕ) (x y : List ℕ) (c d : ℕ) → a ∷ (x ++ c ∷ []) ≡ b ∷ (y ++ d ∷ []) → x ≡ y
same_body a b x y c d e = let tail : x ++ c ∷ [] ≡ y ++ d ∷ [] = ap (drop 1) e in (same_from_push x y c d tail).0

pub one_value : OneValue
one_value text v w a b =
    let same = same_body a.0 b.0 a.2 b.2 a.1 b.1 (sym a.3 ∙ b.3) in
    only_meaning b.2 v w (subst (λ (t : List ℕ). Means t v) same a.4) b.4

pub strings_have_values : StringsHaveValues
strings_have_values text is = (is.3.0, (is.0, is.0, is.1, is.2.1, is.3.1), is.3.2)

-- ---- from left to right

skipped : (n : ℕ) (front rest : List ℕ) → n ≡ length front → meaning_behind n (front ++ rest) ≡ meaning_behind 0 rest
skipped zero [] rest e = refl
skipped zero (b ∷ front) rest e = absurd (omega (arith, e))
skipped (suc n) [] rest e = absurd (omega (arith, e))
skipped (suc n) (b ∷ front) rest e = skipped n front rest (omega (arith, e))

-- one unit, and what stands behind it
unit_step : (piece rest : List ℕ) (value : ℕ) → IsUnit piece value rest → meaning_behind 0 (piece ++ rest) ≡ option_map (λ values. value ∷ values) (meaning_behind 0 rest)
unit_step [] rest value is = absurd (omega (arith, unit_some [] rest value is))
unit_step (b ∷ piece) rest value is =
    ap (λ (o : Option (ℕ × ℕ)). unit_then o (λ n. meaning_behind n (piece ++ rest))) (unit_again (b ∷ piece) rest value is)
    ∙ ap (option_map (λ values. value ∷ values)) (skipped (length (b ∷ piece) - 1) piece rest (omega arith))

pub meaning_again : (text values : List ℕ) → Means text values → meaning_behind 0 text ≡ Some values
meaning_again text [] m = ap (meaning_behind 0) m
meaning_again text (v ∷ values) m =
    ap (meaning_behind 0) m.2 ∙ unit_step m.0 m.1 v m.3 ∙ ap (option_map (λ vs. v ∷ vs)) (meaning_again m.1 values m.4)

some_cons : (v : ℕ) (o : Option (List ℕ)) (values : List ℕ) → option_map (λ vs. v ∷ vs) o ≡ Some values → (more : List ℕ) × (o ≡ Some more) × (values ≡ v ∷ more)
some_cons v None values e = absurd cc
some_cons v (Some more) values e = (more, refl, let all : v ∷ more ≡ values = cc in sym all)

none_is_not : (f : ℕ → Option (List ℕ)) (values : List ℕ) → unit_then None f ≡ Some values → ⊥
none_is_not f values e = cc

meaning_sound_by : (limit : ℕ) (text values : List ℕ) → length text ≤ limit → meaning_behind 0 text ≡ Some values → Means text values
meaning_sound_by limit [] values le e = let none : [] ≡ values = cc in subst (Means []) none refl
meaning_sound_by zero (b ∷ bytes) values le e = absurd (omega (arith, le))
meaning_sound_by (suc limit) (b ∷ bytes) values le e = go (λ rest more shorter h. meaning_sound_by limit rest more shorter h) (unit_at (b ∷ bytes)) refl
  where
    go : ((rest more : List ℕ) → length rest ≤ limit → meaning_behind 0 rest ≡ Some more → Means rest more) → (o : Option (ℕ × ℕ)) → unit_at (b ∷ bytes) ≡ o → Means (b ∷ bytes) values
    go again None none = absurd (none_is_not (λ n. meaning_behind n bytes) values (ap (λ (o : Option (ℕ × ℕ)). unit_then o (λ n. meaning_behind n bytes)) (sym none) ∙ e))
    go again (Some found) some =
        let s = unit_sound (b ∷ bytes) found.0 found.1 some in
        let step = sym (unit_step s.piece s.rest found.0 s.is) ∙ ap (meaning_behind 0) (sym s.parts) ∙ e in
        let more = some_cons found.0 (meaning_behind 0 s.rest) values step in
        let shorter : length s.rest ≤ limit = omega (arith, le, ap length s.parts, length-append s.piece s.rest, unit_some s.piece s.rest found.0 s.is) in
        subst (Means (b ∷ bytes)) (sym more.2) (s.piece, s.rest, s.parts, s.is, again s.rest more.0 shorter more.1)

pub meaning_sound : (text values : List ℕ) → meaning_behind 0 text ≡ Some values → Means text values
meaning_sound text values e = meaning_sound_by (length text) text values (omega arith) e

-- ---- the whole text

-- the last byte, and those before it
parted : (b : ℕ) (more : List ℕ) → (body : List ℕ) × (last : ℕ) × (b ∷ more ≡ body ++ last ∷ []) × (length body ≡ length more)
parted b [] = ([], b, refl, refl)
parted b (c ∷ more) = let r = parted c more in (b ∷ r.0, r.1, ap (λ (t : List ℕ). b ∷ t) r.2, ap suc r.3)

value_within : (first last : ℕ) (body : List ℕ) → value_of (first ∷ (body ++ last ∷ [])) ≡ meaning_behind 0 body
unfolding value_of
value_within first last [] = refl
value_within first last (b ∷ body) =
    ap (meaning_behind 0) (take_at (b ∷ body) (last ∷ []) (length (body ++ last ∷ [])) (omega (arith, length-append body (last ∷ []))))

no_value : (value : List ℕ) → value_of [] ≡ Some value → ⊥
unfolding value_of
no_value value e = cc

no_value_of_one : (quote : ℕ) (value : List ℕ) → value_of (quote ∷ []) ≡ Some value → ⊥
unfolding value_of
no_value_of_one quote value e = cc

value_sound : (text value : List ℕ) → value_of text ≡ Some value → StandsFor text value
value_sound [] value e = absurd (no_value value e)
value_sound (quote ∷ []) value e = absurd (no_value_of_one quote value e)
value_sound (quote ∷ b ∷ more) value e =
    let r = parted b more in
    let whole = ap (λ (t : List ℕ). quote ∷ t) r.2 in
    (quote, r.1, r.0, whole, meaning_sound r.0 value (sym (value_within quote r.1 r.0) ∙ ap value_of (sym whole) ∙ e))

pub value_again : (text value : List ℕ) → StandsFor text value → value_of text ≡ Some value
value_again text value s = ap value_of s.3 ∙ value_within s.0 s.1 s.2 ∙ meaning_again s.2 value s.4

pub value_is_value_of : ValueIsValueOf
value_is_value_of text value = (λ s. value_again text value s, λ e. value_sound text value e)

-- ---- the test, unit by unit

some_pair : (a b x y : ℕ) → some_of (a, b) ≡ some_of (x, y) → (a ≡ x) × (b ≡ y)
some_pair a b x y e = let h = some_is (a, b) (x, y) e in (ap (λ (z : ℕ × ℕ). z.0) h, ap (λ (z : ℕ × ℕ). z.1) h)

none_not_some : (x : ℕ × ℕ) → some_of x ≡ None → ⊥
none_not_some x e = cc

pub no_value_left : (body : List ℕ) → 0 < length body → Means body [] → ⊥
no_value_left body some m = let e = ap length m in omega (arith, some, e)

pub no_unit_there : (body value : List ℕ) → 0 < length body → unit_at body ≡ None → Means body value → ⊥
no_unit_there body [] some none m = no_value_left body some m
no_unit_there body (v ∷ value) some none m = none_not_some (v, length m.0) (sym (unit_again m.0 m.1 v m.3) ∙ ap unit_at (sym m.2) ∙ none)

-- the unit of a body that stands for a value stands for its first byte
unit_is : (body : List ℕ) (found n first : ℕ) (more : List ℕ) → unit_at body ≡ Some (found, n) → (m : Means body (first ∷ more)) → (found ≡ first) × (drop n body ≡ m.1)
unit_is body found n first more e m =
    let one = some_pair found n first (length m.0) (sym e ∙ ap unit_at m.2 ∙ unit_again m.0 m.1 first m.3) in
    (one.0, ap (drop n) m.2 ∙ drop_at m.0 m.1 n (sym one.1))

pub other_unit : (body : List ℕ) (found n first : ℕ) (more : List ℕ) → unit_at body ≡ Some (found, n) → (found ≡ first → ⊥) → Means body (first ∷ more) → ⊥
other_unit body found n first more e other m = other (unit_is body found n first more e m).0

pub unit_behind : (body : List ℕ) (found n : ℕ) (more : List ℕ) → unit_at body ≡ Some (found, n) → Means (drop n body) more ↔ Means body (found ∷ more)
unit_behind body found n more e = (forth, back)
  where
    forth : Means (drop n body) more → Means body (found ∷ more)
    forth m =
        let s = unit_sound body found n e in
        let rest : drop n body ≡ s.rest = ap (drop n) s.parts ∙ drop_at s.piece s.rest n (sym s.len) in
        (s.piece, s.rest, s.parts, s.is, subst (λ (t : List ℕ). Means t more) rest m)

    back : Means body (found ∷ more) → Means (drop n body) more
    back m = subst (λ (t : List ℕ). Means t more) (sym (unit_is body found n found more e m).1) m.4

pub nothing_left : (rest left : List ℕ) → length rest ≡ 0 → Means rest left ↔ (left ≡ [])
nothing_left rest [] none = (λ m. refl, λ e. nil_from_length rest none)
nothing_left rest (v ∷ left) none =
    (λ m. absurd (omega (arith, none, ap length m.2, length-append m.0 m.1, unit_some m.0 m.1 v m.3)), λ e. absurd (cc))

-- ---- the test of a whole text

pub too_short : (text value : List ℕ) → length text < 2 → StandsFor text value → ⊥
too_short text value short s = let e = ap length s.3 in omega (arith, short, e, length-append s.2 (s.1 ∷ []))

pub within : (text value : List ℕ) (first last : ℕ) (body : List ℕ) → text ≡ first ∷ (body ++ last ∷ []) → StandsFor text value ↔ Means body value
within text value first last body e =
    (λ s. subst (λ (t : List ℕ). Means t value) (same_body s.0 first s.2 body s.1 last (sym s.3 ∙ e)) s.4, λ m. (first, last, body, e, m))

is_value_is : (o : Option (List ℕ)) (value : List ℕ) → is_value o value ≡ true → o ≡ Some value
is_value_is None value e = absurd (cc)
is_value_is (Some found) value e = ap some_value ((bytes_eq-Decides found value).0 e)

value_is_again : (o : Option (List ℕ)) (value : List ℕ) → o ≡ Some value → is_value o value ≡ true
value_is_again o value e = ap (λ (z : Option (List ℕ)). is_value z value) e ∙ (bytes_eq-Decides value value).1 refl

pub says_is : (text value : List ℕ) → IsTrue (says text value) ↔ StandsFor text value
says_is text value = (λ t. value_sound text value (is_value_is (value_of text) value t), λ s. value_is_again (value_of text) value (value_again text value s))

pub test_is_says : (text value : List ℕ) (test : Bool) → IsTrue test ↔ StandsFor text value → test ≡ says text value
test_is_says text value test h = let s = says_is text value in same_from_decides test (says text value) h s

-- ---- the parts of a text

pub inside : (text : List ℕ) → 2 ≤ length text → (first last : ℕ) × (text ≡ first ∷ (take (length text - 1 - 1) (drop 1 text) ++ last ∷ []))
inside [] le = absurd (omega (arith, le))
inside (q ∷ []) le = absurd (omega (arith, le))
inside (q ∷ b ∷ more) le =
    let r = parted b more in
    let body : take (length (q ∷ b ∷ more) - 1 - 1) (b ∷ more) ≡ r.0 = ap (take (length (q ∷ b ∷ more) - 1 - 1)) r.2 ∙ take_at r.0 (r.1 ∷ []) (length (q ∷ b ∷ more) - 1 - 1) (omega (arith, r.3)) in
    (q, r.1, ap (λ (t : List ℕ). q ∷ t) (r.2 ∙ ap (λ (t : List ℕ). t ++ r.1 ∷ []) (sym body)))

pub unit_taken : (body rest value : List ℕ) (found n first : ℕ) (more : List ℕ) → unit_at body ≡ Some (found, n) → rest ≡ drop n body → value ≡ first ∷ more → found ≡ first → Means rest more ↔ Means body value
unit_taken body rest value found n first more e at value-is same =
    let h = unit_behind body found n more e in
    let all : found ∷ more ≡ value = ap (λ (x : ℕ). x ∷ more) same ∙ sym value-is in
    (λ m. subst (Means body) all (h.0 (subst (λ (t : List ℕ). Means t more) at m)), λ m. subst (λ (t : List ℕ). Means t more) (sym at) (h.1 (subst (Means body) (sym all) m)))

-- the string's value is UTF-8, whatever list it is given as
pub value_utf8 : (text value : List ℕ) → IsString text → StandsFor text value → IsUtf8 value
value_utf8 text value is s = let v = strings_have_values text is in subst IsUtf8 (one_value text v.0 value v.1 s) v.2

pub left_test : (rest left body value : List ℕ) (test : Bool) → test ≡ eqb (length left) 0 → eqb (length rest) 0 ≡ true → Means rest left ↔ Means body value → IsTrue test ↔ Means body value
left_test rest left body value test e none same =
    let h = nothing_left rest left (eqb-true (length rest) 0 none) in
    (λ t. same.0 (h.1 (nil_from_length left (eqb-true (length left) 0 (sym e ∙ t)))), λ m. e ∙ eq-eqb (length left) 0 (ap length (h.0 (same.1 m))))
