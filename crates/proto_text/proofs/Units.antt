-- What the text between the quotes stands for, byte by byte.
use Rattle.std.proofs.Common.{◌≡◌, ℕ, ◌+◌, suc, zero, min, ◌<◌, ◌≤◌, Bool, true, false, cond, eqb, ltb, ◌&&◌, ◌||◌, List, [], ◌∷◌, ◌++◌, length, take, drop, Option, Some, None, refl, sym, ap, subst, ◌∙◌, arith, ◌⊎◌, inl, inr, append_assoc, IfSome, IsTrue, ◌↔◌, IsUtf8, eqb-true, ltb-true, lt-ltb, take-append-drop, take_at, drop_at, append-nil, length-append, length-take}
use Rattle.proto_base.proofs.Common.{list_any, prefix_len, cases_lt, nil_from_length, append_cancel_left, prefix_len-le-length}
use Rattle.proto_text.specs.declared.escape.Escape.{Escape}
use Rattle.proto_text.specs.declared.escape.Escape.TheVariants.{Octal, Hexadecimal, Single, Unknown}
use Rattle.proto_text.specs.Common.{EachByte, is_backslash, is_octal, is_hex, escape_of, number_in, IsPlainByte, IsSingle, IsDigits, IsUnit, Means, IsAllowed, octal_at, hex_at, escape_after, escape_at, unit_at}
use Rattle.proto_text.proofs.Runs.{run_len, run_passes, run_stops}

-- ---- digits, as many as there are

each_front : (p : ℕ → Bool) (n m : ℕ) (bytes : List ℕ) → n ≤ m → EachByte p (take m bytes) → EachByte p (take n bytes)
each_front p zero m bytes le h = tt
each_front p (suc n) zero bytes le h = absurd (omega arith)
each_front p (suc n) (suc m) [] le h = tt
each_front p (suc n) (suc m) (b ∷ bytes) le h = (h.0, each_front p n m bytes (omega arith) h.1)

run_least : (p : ℕ → Bool) (xs rest : List ℕ) → EachByte p xs → length xs ≤ prefix_len p (xs ++ rest)
run_least p [] rest each = omega arith
run_least p (x ∷ xs) rest each = rw each.0 (let h = run_least p xs rest each.1 in omega arith)

digits_len : (p : ℕ → Bool) (limit : ℕ) (digits rest : List ℕ) → IsDigits p limit digits rest → min limit (prefix_len p (digits ++ rest)) ≡ length digits
digits_len p limit digits rest d = by (cases_lt (length digits) limit)
  where
    by : (length digits < limit) ⊎ (limit ≤ length digits) → min limit (prefix_len p (digits ++ rest)) ≡ length digits
    by (inl lt) = omega (arith, run_len p digits rest d.each (d.longest lt), d.short)
    by (inr le) = omega (arith, run_least p digits rest d.each, d.short)

digits_at : (p : ℕ → Bool) (limit : ℕ) (bytes : List ℕ) → 0 < min limit (prefix_len p bytes) → IsDigits p limit (take (min limit (prefix_len p bytes)) bytes) (drop (min limit (prefix_len p bytes)) bytes)
digits_at p limit bytes some =
    let n : ℕ = min limit (prefix_len p bytes) in
    let le : n ≤ prefix_len p bytes = omega arith in
    let fits = prefix_len-le-length p bytes in
    let len : length (take n bytes) ≡ n = omega (arith, length-take n bytes) in
    record {
      each = each_front p n (prefix_len p bytes) bytes le (run_passes p bytes);
      some = omega arith;
      short = omega arith;
      longest = λ lt. (let whole : n ≡ prefix_len p bytes = omega arith in rw whole (run_stops p bytes));
    }

-- ---- one unit

abbrev Unit-at : Type 0
Unit-at = Option (ℕ × ℕ)

abbrev some : ℕ × ℕ → Unit-at
some x = Some x

pub some_is : (x y : ℕ × ℕ) → some x ≡ some y → x ≡ y
some_is x y e = cc

some_if : (t : Bool) (x y : ℕ × ℕ) → cond {A = Unit-at} t (Some x) None ≡ Some y → (t ≡ true) × (x ≡ y)
some_if true x y e = (refl, cc)
some_if false x y e = absurd cc

both : (a b : Bool) → (a && b) ≡ true → (a ≡ true) × (b ≡ true)
both true true e = (refl, refl)
both true false e = absurd cc
both false true e = absurd cc
both false false e = absurd cc

-- the bytes begin with n that stand for the value
pub record Stands (bytes : List ℕ) (value n : ℕ) : Type 0 where
  pub piece : List ℕ
  pub rest : List ℕ
  pub parts : bytes ≡ piece ++ rest
  pub len : n ≡ length piece
  pub is : IsUnit piece value rest

stands_as : (bytes : List ℕ) (x : ℕ × ℕ) (value n : ℕ) → x ≡ (value, n) → Stands bytes x.0 x.1 → Stands bytes value n
stands_as bytes x value n e b = subst (λ (y : ℕ × ℕ). Stands bytes y.0 y.1) e b

octal_sound : (bytes : List ℕ) (value n : ℕ) → octal_at bytes ≡ Some (value, n) → Stands (92 ∷ bytes) value n
unfolding octal_at
octal_sound bytes value n e =
    let k : ℕ = min 3 (prefix_len is_octal bytes) in
    let v : ℕ = number_in 8 0 (take k bytes) in
    let g = some_if (ltb 0 k && ltb v 256) (v, 1 + k) (value, n) e in
    let t = both (ltb 0 k) (ltb v 256) g.0 in
    let d = digits_at is_octal 3 bytes (ltb-true 0 k t.0) in
    let len : length (take k bytes) ≡ k = omega (arith, length-take k bytes, prefix_len-le-length is_octal bytes) in
    stands_as (92 ∷ bytes) (v, 1 + k) value n g.1 (record {
      piece = 92 ∷ take k bytes;
      rest = drop k bytes;
      parts = ap (λ (t : List ℕ). 92 ∷ t) (sym (take-append-drop k bytes));
      len = omega arith;
      is = inr (inr (inl (take k bytes, refl, d, refl, t.1)));
    })

hex_sound : (b : ℕ) (bytes : List ℕ) (value n : ℕ) → escape_of b ≡ Hexadecimal → hex_at bytes ≡ Some (value, n) → Stands (92 ∷ b ∷ bytes) value n
unfolding hex_at
hex_sound b bytes value n h e =
    let k : ℕ = min 2 (prefix_len is_hex bytes) in
    let v : ℕ = number_in 16 0 (take k bytes) in
    let g = some_if (ltb 0 k && ltb v 256) (v, 2 + k) (value, n) e in
    let t = both (ltb 0 k) (ltb v 256) g.0 in
    let d = digits_at is_hex 2 bytes (ltb-true 0 k t.0) in
    let len : length (take k bytes) ≡ k = omega (arith, length-take k bytes, prefix_len-le-length is_hex bytes) in
    stands_as (92 ∷ b ∷ bytes) (v, 2 + k) value n g.1 (record {
      piece = 92 ∷ b ∷ take k bytes;
      rest = drop k bytes;
      parts = ap (λ (t : List ℕ). 92 ∷ b ∷ t) (sym (take-append-drop k bytes));
      len = omega arith;
      is = inr (inr (inr (b, take k bytes, refl, h, d, refl, t.1)));
    })

escape_sound_by : (s : Escape) (b : ℕ) (bytes : List ℕ) (value n : ℕ) → escape_of b ≡ s → escape_after s b bytes ≡ Some (value, n) → Stands (92 ∷ b ∷ bytes) value n
escape_sound_by Octal b bytes value n s e = octal_sound (b ∷ bytes) value n e
escape_sound_by Hexadecimal b bytes value n s e = hex_sound b bytes value n s e
escape_sound_by (Single v) b bytes value n s e =
    stands_as (92 ∷ b ∷ bytes) (v, 2) value n (some_is (v, 2) (value, n) e) (record { piece = 92 ∷ b ∷ []; rest = bytes; parts = refl; len = refl; is = inr (inl (b, refl, s)) })
escape_sound_by Unknown b bytes value n s e = absurd cc

escape_sound : (bytes : List ℕ) (value n : ℕ) → escape_at bytes ≡ Some (value, n) → Stands (92 ∷ bytes) value n
unfolding escape_at
escape_sound [] value n e = absurd cc
escape_sound (b ∷ bytes) value n e = escape_sound_by (escape_of b) b bytes value n refl e

unit_sound_by : (t : Bool) (b : ℕ) (bytes : List ℕ) (value n : ℕ) → eqb b 92 ≡ t → cond t (escape_at bytes) (Some (b, 1)) ≡ Some (value, n) → Stands (b ∷ bytes) value n
unit_sound_by true b bytes value n t e = rw (eqb-true b 92 t) (escape_sound bytes value n e)
unit_sound_by false b bytes value n t e = stands_as (b ∷ bytes) (b, 1) value n (some_is (b, 1) (value, n) e) (record { piece = b ∷ []; rest = bytes; parts = refl; len = refl; is = inl (refl, t) })

pub unit_sound : (bytes : List ℕ) (value n : ℕ) → unit_at bytes ≡ Some (value, n) → Stands bytes value n
unfolding unit_at
unit_sound [] value n e = absurd cc
unit_sound (b ∷ bytes) value n e = unit_sound_by (eqb b 92) b bytes value n refl e

-- ---- what stands there is found

plain_again : (piece rest : List ℕ) (value : ℕ) → IsPlainByte piece value → unit_at (piece ++ rest) ≡ Some (value, length piece)
unfolding unit_at
plain_again piece rest value is = rw (is.0, is.1) refl

single_again : (piece rest : List ℕ) (value : ℕ) → IsSingle piece value → unit_at (piece ++ rest) ≡ Some (value, length piece)
unfolding unit_at escape_at
single_again piece rest value is = rw (is.1, is.2) refl

octal_first : (b : ℕ) → is_octal b ≡ true → escape_of b ≡ Octal
unfolding escape_of
octal_first b e = rw e refl

take_digits : (digits rest : List ℕ) (n : ℕ) → n ≡ length digits → take n (digits ++ rest) ≡ digits
take_digits digits rest n e = take_at digits rest n (sym e)

pick : (k : ℕ) (v n : ℕ) (w m : ℕ) → 0 < k → v ≡ w → n ≡ m → ltb w 256 ≡ true → cond {A = Unit-at} (ltb 0 k && ltb v 256) (Some (v, n)) None ≡ Some (w, m)
pick k v n w m some v-is n-is small =
    let a : ltb 0 k ≡ true = lt-ltb 0 k some in
    let b : ltb v 256 ≡ true = rw v-is small in
    rw (a, b) (ap (λ (x : ℕ). Some (x, n)) v-is ∙ ap (λ (x : ℕ). Some (w, x)) n-is)

octal_again_at : (digits rest : List ℕ) (value : ℕ) → IsDigits is_octal 3 digits rest → value ≡ number_in 8 0 digits → ltb value 256 ≡ true → octal_at (digits ++ rest) ≡ Some (value, suc (length digits))
unfolding octal_at
octal_again_at digits rest value d v small =
    let n = digits_len is_octal 3 digits rest d in
    let front = take_digits digits rest (min 3 (prefix_len is_octal (digits ++ rest))) n in
    let d-some = d.some in
    pick (min 3 (prefix_len is_octal (digits ++ rest))) (number_in 8 0 (take (min 3 (prefix_len is_octal (digits ++ rest))) (digits ++ rest))) (1 + min 3 (prefix_len is_octal (digits ++ rest))) value (suc (length digits))
    (omega arith) (ap (number_in 8 0) front ∙ sym v) (omega arith) small

hex_again_at : (digits rest : List ℕ) (value : ℕ) → IsDigits is_hex 2 digits rest → value ≡ number_in 16 0 digits → ltb value 256 ≡ true → hex_at (digits ++ rest) ≡ Some (value, suc (suc (length digits)))
unfolding hex_at
hex_again_at digits rest value d v small =
    let n = digits_len is_hex 2 digits rest d in
    let front = take_digits digits rest (min 2 (prefix_len is_hex (digits ++ rest))) n in
    let d-some = d.some in
    pick (min 2 (prefix_len is_hex (digits ++ rest))) (number_in 16 0 (take (min 2 (prefix_len is_hex (digits ++ rest))) (digits ++ rest))) (2 + min 2 (prefix_len is_hex (digits ++ rest))) value (suc (suc (length digits)))
    (omega arith) (ap (number_in 16 0) front ∙ sym v) (omega arith) small

octal_again : (digits rest : List ℕ) (value : ℕ) → IsDigits is_octal 3 digits rest → value ≡ number_in 8 0 digits → ltb value 256 ≡ true → unit_at (92 ∷ (digits ++ rest)) ≡ Some (value, suc (length digits))
unfolding unit_at escape_at
octal_again [] rest value d v small = absurd (let some = d.some in omega arith)
octal_again (b ∷ digits) rest value d v small =
    let first = octal_first b d.each.0 in
    rw first (octal_again_at (b ∷ digits) rest value d v small)

hex_again : (b : ℕ) (digits rest : List ℕ) (value : ℕ) → escape_of b ≡ Hexadecimal → IsDigits is_hex 2 digits rest → value ≡ number_in 16 0 digits → ltb value 256 ≡ true → unit_at (92 ∷ b ∷ (digits ++ rest)) ≡ Some (value, suc (suc (length digits)))
unfolding unit_at escape_at
hex_again b digits rest value h d v small = rw h (hex_again_at digits rest value d v small)

pub unit_again : (piece rest : List ℕ) (value : ℕ) → IsUnit piece value rest → unit_at (piece ++ rest) ≡ Some (value, length piece)
unit_again piece rest value (inl is) = plain_again piece rest value is
unit_again piece rest value (inr (inl is)) = single_again piece rest value is
unit_again piece rest value (inr (inr (inl is))) = rw is.1 (octal_again is.0 rest value is.2 is.3 is.4)
unit_again piece rest value (inr (inr (inr is))) = rw is.2 (hex_again is.0 is.1 rest value is.3 is.4 is.5 is.6)

-- ---- the whole text

pub nothing_at_end : (value n : ℕ) → unit_at [] ≡ Some (value, n) → ⊥
unfolding unit_at
nothing_at_end value n e = cc

no_unit : (text : List ℕ) (value : ℕ) (values : List ℕ) → Means text (value ∷ values) → text ≡ [] → ⊥
no_unit text value values m e = nothing_at_end value (length m.0) (ap unit_at (sym e ∙ m.2) ∙ unit_again m.0 m.1 value m.3)

-- two units that one text begins with
pub record SameUnit (a x : List ℕ) (v : ℕ) (b y : List ℕ) (w : ℕ) : Type 0 where
  pub value : v ≡ w
  pub rest : x ≡ y

pub same_unit : (a x : List ℕ) (v : ℕ) (b y : List ℕ) (w : ℕ) → IsUnit a v x → IsUnit b w y → a ++ x ≡ b ++ y → SameUnit a x v b y w
same_unit a x v b y w p q e =
    let one = some_is (v, length a) (w, length b) (sym (unit_again a x v p) ∙ ap unit_at e ∙ unit_again b y w q) in
    let len : length a ≡ length b = ap (λ (x : ℕ × ℕ). x.1) one in
    let bytes : a ≡ b = sym (take_at a x (length b) len) ∙ ap (take (length b)) e ∙ take_at b y (length b) refl in
    record {
      value = ap (λ (x : ℕ × ℕ). x.0) one;
      rest = append_cancel_left b x y (ap (λ (t : List ℕ). t ++ x) (sym bytes) ∙ e);
    }

-- a text stands for one value at most
pub only_meaning : (text : List ℕ) (vs ws : List ℕ) → Means text vs → Means text ws → vs ≡ ws
only_meaning text [] [] a b = refl
only_meaning text [] (w ∷ ws) a b = absurd (no_unit text w ws b a)
only_meaning text (v ∷ vs) [] a b = absurd (no_unit text v vs a b)
only_meaning text (v ∷ vs) (w ∷ ws) a b =
    let same = same_unit a.0 a.1 v b.0 b.1 w a.3 b.3 (sym a.2 ∙ b.2) in
    let others = only_meaning a.1 vs ws a.4 (subst (λ (t : List ℕ). Means t ws) (sym same.rest) b.4) in
    let head = same.value in
    cc

-- ---- the loop over the text

-- these values were found in the text before rest
pub record MeansUpTo (text rest values : List ℕ) : Type 0 where
  pub forth : (more : List ℕ) → Means rest more → Means text (values ++ more)
  pub back : (all : List ℕ) → Means text all → (more : List ℕ) × (all ≡ values ++ more) × Means rest more

pub means_none : (text : List ℕ) → MeansUpTo text text []
means_none text = record { forth = λ more m. m; back = λ all m. (all, refl, m) }

one_more : (all values : List ℕ) (v w : ℕ) (more : List ℕ) → all ≡ values ++ v ∷ more → v ≡ w → all ≡ (values ++ w ∷ []) ++ more
one_more all values v w more e same = e ∙ ap (λ (x : ℕ). values ++ x ∷ more) same ∙ sym (append_assoc values (w ∷ []) more)

back_more : (text rest values : List ℕ) (value n : ℕ) → MeansUpTo text rest values → (s : Stands rest value n) → (all : List ℕ) → Means text all → (more : List ℕ) × (all ≡ (values ++ value ∷ []) ++ more) × Means s.rest more
back_more text rest values value n so_far s all m = by (so_far.back all m).0 (so_far.back all m).1 (so_far.back all m).2
  where
    by : (more : List ℕ) → all ≡ values ++ more → Means rest more → (more : List ℕ) × (all ≡ (values ++ value ∷ []) ++ more) × Means s.rest more
    by [] e r = absurd (nothing_at_end value (length s.piece) (ap unit_at (sym r ∙ s.parts) ∙ unit_again s.piece s.rest value s.is))
    by (v ∷ more) e r =
        let same = same_unit r.0 r.1 v s.piece s.rest value r.3 s.is (sym r.2 ∙ s.parts) in
        (more, one_more all values v value more e same.value, subst (λ (t : List ℕ). Means t more) same.rest r.4)

pub means_more : (text rest values : List ℕ) (value n : ℕ) → MeansUpTo text rest values → unit_at rest ≡ Some (value, n) → MeansUpTo text (drop n rest) (values ++ value ∷ [])
means_more text rest values value n so_far found =
    let s = unit_sound rest value n found in
    let rest-is : drop n rest ≡ s.rest = ap (drop n) s.parts ∙ drop_at s.piece s.rest n (sym s.len) in
    rw rest-is (record {
      forth = λ more m. subst (Means text) (sym (append_assoc values (value ∷ []) more)) (so_far.forth (value ∷ more) (s.piece, s.rest, s.parts, s.is, m));
      back = back_more text rest values value n so_far s;
    })

pub means_all : (text rest values : List ℕ) → MeansUpTo text rest values → length rest ≡ 0 → Means text values
means_all text rest values so_far none = subst (Means text) (append-nil values) (so_far.forth [] (nil_from_length rest none))

-- no escape is allowed there
pub means_stops : (text rest values : List ℕ) → MeansUpTo text rest values → 0 < length rest → unit_at rest ≡ None → (all : List ℕ) → Means text all → ⊥
means_stops text rest values so_far some none all m = by (so_far.back all m).0 (so_far.back all m).2
  where
    not_none : (x : ℕ × ℕ) → Some x ≡ None → ⊥
    not_none x e = cc

    by : (more : List ℕ) → Means rest more → ⊥
    by [] r = let e = ap length r in omega arith
    by (v ∷ more) r = not_none (v, length r.0) (sym (unit_again r.0 r.1 v r.3) ∙ ap unit_at (sym r.2) ∙ none)

pub unit_some : (piece rest : List ℕ) (value : ℕ) → IsUnit piece value rest → 0 < length piece
unit_some piece rest value (inl is) = omega (arith, ap length is.0)
unit_some piece rest value (inr (inl is)) = omega (arith, ap length is.1)
unit_some piece rest value (inr (inr (inl is))) = omega (arith, ap length is.1)
unit_some piece rest value (inr (inr (inr is))) = omega (arith, ap length is.2)

pub found_some : (bytes : List ℕ) (result : Option (ℕ × ℕ)) → result ≡ unit_at bytes → IfSome result (λ found. 0 < found.1)
found_some bytes None e = tt
found_some bytes (Some found) e = let s = unit_sound bytes found.0 found.1 (sym e) in omega (arith, s.len, unit_some s.piece s.rest found.0 s.is)

pub found_fits : (bytes : List ℕ) (result : Option (ℕ × ℕ)) → result ≡ unit_at bytes → IfSome result (λ found. found.1 ≤ length bytes)
found_fits bytes None e = tt
found_fits bytes (Some found) e = let s = unit_sound bytes found.0 found.1 (sym e) in omega (arith, s.len, ap length s.parts, length-append s.piece s.rest)

pub allowed_as : (body values : List ℕ) (r : Bool) → Means body values → (IsTrue r ↔ IsUtf8 values) → (IsTrue r ↔ IsAllowed body)
allowed_as body values r means utf8 = (λ t. (values, means, utf8.0 t), λ allowed. utf8.1 (subst IsUtf8 (only_meaning body allowed.0 values allowed.1 means) allowed.2))

-- ---- a text without a backslash

no_backslash : (a b : Bool) → (a || b) ≡ false → (a ≡ false) × (b ≡ false)
no_backslash false false e = (refl, refl)
no_backslash false true e = absurd cc
no_backslash true b e = absurd cc

pub plain_means : (bytes : List ℕ) → list_any is_backslash bytes ≡ false → Means bytes bytes
plain_means [] h = refl
plain_means (b ∷ bytes) h =
    let n = no_backslash (is_backslash b) (list_any is_backslash bytes) h in
    (b ∷ [], bytes, refl, inl (refl, n.0), plain_means bytes n.1)
