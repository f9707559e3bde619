-- The reader of values in braces reads exactly what is flattened.
use Rattle.std.proofs.Common.{◌≡◌, ℕ, zero, suc, ◌+◌, ◌-◌, ◌≤◌, length, Bool, true, false, cond, List, [], ◌∷◌, ◌++◌, Some, None, refl, sym, ap, subst, ◌∙◌, inl, inr, append_assoc, arith, option_and_then}
use Rattle.proto_tree.specs.Common.{Class, Expected, Lexeme, Atom, fits, is_brace, Mark, mark, one, Fit, flat_aggregate, flat_within, fewer, other_expected, Read, at_close, put_atom, within_at, aggregate_at, token, ◌then◌}
use Rattle.proto_tree.specs.declared.class.Class.TheVariants as class
use Rattle.proto_tree.specs.declared.class.Expected.TheVariants as want
use Rattle.proto_tree.specs.declared.tree.Atom.TheVariants as atom
use Rattle.proto_tree.proofs.Exact.{IsExact, Calm, Begins, Stops, counted, counted_from, counted_quiet, never, bind_ok, some_is, either_cases, apart, apart_is, renamed, token_sound, Fit-join}

abbrev is : Class → Class → Bool
is c = fits (want.One c)

-- ---- what a token is, is not another

other_apart : (colon : Bool) (c d : Class) → apart (fits (other_expected colon)) (is d) ≡ true → fits (other_expected colon) c ≡ true → is d c ≡ false
other_apart colon c d h e = apart_is (fits (other_expected colon)) (is d) h c e

other_no_close : (colon : Bool) → apart (fits (other_expected colon)) (is class.Close) ≡ true
other_no_close true = refl
other_no_close false = refl

other_no_open : (colon : Bool) → apart (fits (other_expected colon)) (is class.Open) ≡ true
other_no_open true = refl
other_no_open false = refl

other_no_colon : (colon : Bool) → apart (fits (other_expected colon)) (is class.Colon) ≡ true
other_no_colon true = refl
other_no_colon false = refl

other_no_word : (colon : Bool) → apart (fits (other_expected colon)) (fits want.OptionName) ≡ true
other_no_word true = refl
other_no_word false = refl

other_no_brace : (colon : Bool) → apart (fits (other_expected colon)) is_brace ≡ true
other_no_brace true = refl
other_no_brace false = refl

-- ---- sound

abbrev IsRead : Bool → ℕ → List Lexeme → (List Atom × ℕ) × List Lexeme → Type 0
IsRead colon n s y = (text : List Lexeme) × (s ≡ text ++ y.1) × Fit (flat_within colon n y.0.0 y.0.1) text

-- one token more
put_sound : (colon before : Bool) (n m : ℕ) (a : Atom) (w : Expected) (l : Lexeme) (s : List Lexeme) (y : (List Atom × ℕ) × List Lexeme) (read : Read (List Atom × ℕ))
    → fits w l.class ≡ true → ((rest : List Atom) (j : ℕ) → flat_within before n (a ∷ rest) j ≡ mark w l.at ∷ flat_within colon m rest j)
    → ((y : (List Atom × ℕ) × List Lexeme) → read ≡ Some y → IsRead colon m s y)
    → put_atom a read ≡ Some y → IsRead before n (l ∷ s) y
put_sound colon before n m a w l s y read fit flat more e =
    let b = bind_ok read (λ x. Some ((a ∷ x.0.0, x.0.1), x.1)) y e in
    let t = more b.0 b.1 in
    let here : IsRead before n (l ∷ s) ((a ∷ b.0.0.0, b.0.0.1), b.0.1) = (l ∷ t.0, ap (λ (u : List Lexeme). l ∷ u) t.1, rw (flat b.0.0.0 b.0.0.1) (fit, refl, t.2)) in
    subst (IsRead before n (l ∷ s)) (some_is ((a ∷ b.0.0.0, b.0.0.1), b.0.1) y b.2) here

close_sound : (colon : Bool) (n : ℕ) (l : Lexeme) (s : List Lexeme) (y : (List Atom × ℕ) × List Lexeme) (read : Read (List Atom × ℕ))
    → is class.Close l.class ≡ true → ((y : (List Atom × ℕ) × List Lexeme) → read ≡ Some y → IsRead false (fewer n) s y)
    → at_close n l.at s read ≡ Some y → IsRead colon n (l ∷ s) y
close_sound colon zero l s y read fit more e = subst (IsRead colon zero (l ∷ s)) (some_is (([], l.at), s) y e) (l ∷ [], refl, (fit, refl, tt))
close_sound colon (suc n) l s y read fit more e = put_sound false colon (suc n) n (atom.Close l.at) (want.One class.Close) l s y read fit (λ rest j. refl) more e

within_sound : (colon : Bool) (n : ℕ) (s : List Lexeme) (y : (List Atom × ℕ) × List Lexeme) → within_at colon n s ≡ Some y → IsRead colon n s y
within_sound colon n [] y e = absurd cc
within_sound colon n (l ∷ s) y e =
    let others : Read (List Atom × ℕ) = cond (fits want.OptionName l.class) (put_atom (atom.Word l.at) (within_at false n s)) (cond (fits (other_expected colon) l.class) (put_atom (atom.Other l.at) (within_at false n s)) None) in
    elim (either_cases (is class.Close l.class) (at_close n l.at s (within_at false (fewer n) s)) (cond (is class.Open l.class) (put_atom (atom.Open l.at) (within_at false (suc n) s)) (cond (is class.Colon l.class) (put_atom (atom.Colon l.at) (within_at true n s)) others)) (Some y) e) [
      | inl g ↦ close_sound colon n l s y (within_at false (fewer n) s) g.0 (λ z f. within_sound false (fewer n) s z f) g.1
      | inr g ↦ elim (either_cases (is class.Open l.class) (put_atom (atom.Open l.at) (within_at false (suc n) s)) (cond (is class.Colon l.class) (put_atom (atom.Colon l.at) (within_at true n s)) others) (Some y) g.1) [
        | inl h ↦ put_sound false colon n (suc n) (atom.Open l.at) (want.One class.Open) l s y (within_at false (suc n) s) h.0 (λ rest j. refl) (λ z f. within_sound false (suc n) s z f) h.1
        | inr h ↦ elim (either_cases (is class.Colon l.class) (put_atom (atom.Colon l.at) (within_at true n s)) others (Some y) h.1) [
          | inl k ↦ put_sound true colon n n (atom.Colon l.at) (want.One class.Colon) l s y (within_at true n s) k.0 (λ rest j. refl) (λ z f. within_sound true n s z f) k.1
          | inr k ↦ elim (either_cases (fits want.OptionName l.class) (put_atom (atom.Word l.at) (within_at false n s)) (cond (fits (other_expected colon) l.class) (put_atom (atom.Other l.at) (within_at false n s)) None) (Some y) k.1) [
            | inl m ↦ put_sound false colon n n (atom.Word l.at) want.OptionName l s y (within_at false n s) m.0 (λ rest j. refl) (λ z f. within_sound false n s z f) m.1
            | inr m ↦ elim (either_cases (fits (other_expected colon) l.class) (put_atom (atom.Other l.at) (within_at false n s)) None (Some y) m.1) [
              | inl o ↦ put_sound false colon n n (atom.Other l.at) (other_expected colon) l s y (within_at false n s) o.0 (λ rest j. refl) (λ z f. within_sound false n s z f) o.1
              | inr o ↦ absurd cc
            ]
          ]
        ]
      ]
    ]

-- ---- complete

abbrev read_is : List Atom → ℕ → List Lexeme → Read (List Atom × ℕ)
read_is atoms j r = Some ((atoms, j), r)

within_complete : (colon : Bool) (n : ℕ) (atoms : List Atom) (j : ℕ) (text r : List Lexeme) → Fit (flat_within colon n atoms j) text → within_at colon n (text ++ r) ≡ read_is atoms j r
within_complete colon zero [] j [] r h = absurd h
within_complete colon zero [] j (l ∷ []) r h = rw (h.0, h.1) refl
within_complete colon zero [] j (l ∷ k ∷ t) r h = absurd h.2
within_complete colon (suc n) [] j [] r h = absurd h
within_complete colon (suc n) [] j (l ∷ t) r h = absurd (nothing h.0) where
  nothing : false ≡ true → ⊥
  nothing e = cc
within_complete colon n (atom.Open i ∷ rest) j [] r h = absurd h
within_complete colon n (atom.Open i ∷ rest) j (l ∷ t) r h =
    let no : is class.Close l.class ≡ false = apart_is (is class.Open) (is class.Close) refl l.class h.0 in
    rw (no, h.0, h.1, within_complete false (suc n) rest j t r h.2) refl
within_complete colon zero (atom.Close i ∷ rest) j [] r h = absurd h
within_complete colon zero (atom.Close i ∷ rest) j (l ∷ t) r h = absurd (nothing h.0) where
  nothing : false ≡ true → ⊥
  nothing e = cc
within_complete colon (suc n) (atom.Close i ∷ rest) j [] r h = absurd h
within_complete colon (suc n) (atom.Close i ∷ rest) j (l ∷ t) r h = rw (h.0, h.1, within_complete false n rest j t r h.2) refl
within_complete colon n (atom.Colon i ∷ rest) j [] r h = absurd h
within_complete colon n (atom.Colon i ∷ rest) j (l ∷ t) r h =
    let no : is class.Close l.class ≡ false = apart_is (is class.Colon) (is class.Close) refl l.class h.0 in
    let nor : is class.Open l.class ≡ false = apart_is (is class.Colon) (is class.Open) refl l.class h.0 in
    rw (no, nor, h.0, h.1, within_complete true n rest j t r h.2) refl
within_complete colon n (atom.Word i ∷ rest) j [] r h = absurd h
within_complete colon n (atom.Word i ∷ rest) j (l ∷ t) r h =
    let no : is class.Close l.class ≡ false = apart_is (fits want.OptionName) (is class.Close) refl l.class h.0 in
    let nor : is class.Open l.class ≡ false = apart_is (fits want.OptionName) (is class.Open) refl l.class h.0 in
    let not : is class.Colon l.class ≡ false = apart_is (fits want.OptionName) (is class.Colon) refl l.class h.0 in
    rw (no, nor, not, h.0, h.1, within_complete false n rest j t r h.2) refl
within_complete colon n (atom.Other i ∷ rest) j [] r h = absurd h
within_complete colon n (atom.Other i ∷ rest) j (l ∷ t) r h =
    let no : is class.Close l.class ≡ false = other_apart colon l.class class.Close (other_no_close colon) h.0 in
    let nor : is class.Open l.class ≡ false = other_apart colon l.class class.Open (other_no_open colon) h.0 in
    let not : is class.Colon l.class ≡ false = other_apart colon l.class class.Colon (other_no_colon colon) h.0 in
    let word : fits want.OptionName l.class ≡ false = apart_is (fits (other_expected colon)) (fits want.OptionName) (other_no_word colon) l.class h.0 in
    rw (no, nor, not, word, h.0, h.1, within_complete false n rest j t r h.2) refl

-- ---- the depth

opens_more : (c : Class) (d : ℕ) → is class.Open c ≡ true → counted is_brace d c ≡ suc d
opens_more class.Open d e = omega arith
opens_more _ d e = absurd cc

closes_less : (c : Class) (d : ℕ) → is class.Close c ≡ true → counted is_brace (suc d) c ≡ d
closes_less class.Close d e = omega arith
closes_less _ d e = absurd cc

-- n inner braces are open, and the outer one
abbrev deep : ℕ → ℕ → ℕ
deep zero d = suc d
deep (suc n) d = suc (deep n d)

within_depth : (colon : Bool) (n : ℕ) (atoms : List Atom) (j : ℕ) (text : List Lexeme) → Fit (flat_within colon n atoms j) text → (d : ℕ) (r : List Lexeme) → counted_from is_brace (deep n d) (text ++ r) ≡ counted_from is_brace d r
within_depth colon zero [] j [] h d r = absurd h
within_depth colon zero [] j (l ∷ []) h d r = ap (λ (e : ℕ). counted_from is_brace e r) (closes_less l.class d h.0)
within_depth colon zero [] j (l ∷ k ∷ t) h d r = absurd h.2
within_depth colon (suc n) [] j [] h d r = absurd h
within_depth colon (suc n) [] j (l ∷ t) h d r = absurd (nothing h.0) where
  nothing : false ≡ true → ⊥
  nothing e = cc
within_depth colon n (atom.Open i ∷ rest) j [] h d r = absurd h
within_depth colon n (atom.Open i ∷ rest) j (l ∷ t) h d r = ap (λ (e : ℕ). counted_from is_brace e (t ++ r)) (opens_more l.class (deep n d) h.0) ∙ within_depth false (suc n) rest j t h.2 d r
within_depth colon zero (atom.Close i ∷ rest) j [] h d r = absurd h
within_depth colon zero (atom.Close i ∷ rest) j (l ∷ t) h d r = absurd (nothing h.0) where
  nothing : false ≡ true → ⊥
  nothing e = cc
within_depth colon (suc n) (atom.Close i ∷ rest) j [] h d r = absurd h
within_depth colon (suc n) (atom.Close i ∷ rest) j (l ∷ t) h d r = ap (λ (e : ℕ). counted_from is_brace e (t ++ r)) (closes_less l.class (deep n d) h.0) ∙ within_depth false n rest j t h.2 d r
within_depth colon n (atom.Colon i ∷ rest) j [] h d r = absurd h
within_depth colon n (atom.Colon i ∷ rest) j (l ∷ t) h d r = ap (λ (e : ℕ). counted_from is_brace e (t ++ r)) (counted_quiet is_brace l.class (deep n d) (apart_is (is class.Colon) is_brace refl l.class h.0)) ∙ within_depth true n rest j t h.2 d r
within_depth colon n (atom.Word i ∷ rest) j [] h d r = absurd h
within_depth colon n (atom.Word i ∷ rest) j (l ∷ t) h d r = ap (λ (e : ℕ). counted_from is_brace e (t ++ r)) (counted_quiet is_brace l.class (deep n d) (apart_is (fits want.OptionName) is_brace refl l.class h.0)) ∙ within_depth false n rest j t h.2 d r
within_depth colon n (atom.Other i ∷ rest) j [] h d r = absurd h
within_depth colon n (atom.Other i ∷ rest) j (l ∷ t) h d r = ap (λ (e : ℕ). counted_from is_brace e (t ++ r)) (counted_quiet is_brace l.class (deep n d) (apart_is (fits (other_expected colon)) is_brace (other_no_brace colon) l.class h.0)) ∙ within_depth false n rest j t h.2 d r

-- ---- a value in braces

abbrev with_brace : ℕ × (List Atom × ℕ) → List Mark
with_brace x = one class.Open x.0 ++ flat_within false 0 x.1.0 x.1.1

brace_then : (l : Lexeme) (s : List Lexeme) → is class.Open l.class ≡ true → token (want.One class.Open) (l ∷ s) ≡ Some (l.at, s)
unfolding token
brace_then l s e = rw e refl

pub aggregate-exact : IsExact is_brace true (is class.Open) never flat_aggregate aggregate_at
unfolding aggregate_at
aggregate-exact = renamed flat_aggregate (λ x. record { «open» = x.0; atoms = x.1.0; close = x.1.1 }) (λ a. (a.«open», (a.atoms, a.close))) (λ a. refl) (record { begins = begins; calm = calm; sound = sound; complete = complete }) where
  begins : (x : ℕ × (List Atom × ℕ)) (text : List Lexeme) → Fit (with_brace x) text → Begins true (is class.Open) text
  begins x [] h = h
  begins x (l ∷ t) h = h.0

  calm : (x : ℕ × (List Atom × ℕ)) (text : List Lexeme) → Fit (with_brace x) text → Calm is_brace text
  calm x [] h = absurd h
  calm x (l ∷ t) h = λ d r. ap (λ (e : ℕ). counted_from is_brace e (t ++ r)) (opens_more l.class d h.0) ∙ within_depth false 0 x.1.0 x.1.1 t h.2 d r

  sound : (s : List Lexeme) (x : ℕ × (List Atom × ℕ)) (r : List Lexeme) → (token (want.One class.Open) then within_at false 0) s ≡ Some (x, r) → (text : List Lexeme) × (s ≡ text ++ r) × Fit (with_brace x) text
  sound s x r e =
      let a = bind_ok (token (want.One class.Open) s) (λ x. option_and_then (λ y. Some ((x.0, y.0), y.1)) (within_at false 0 x.1)) (x, r) e in
      let b = bind_ok (within_at false 0 a.0.1) (λ y. Some ((a.0.0, y.0), y.1)) (x, r) a.2 in
      let t = token_sound (want.One class.Open) s a.0.0 a.0.1 a.1 in
      let u = within_sound false 0 a.0.1 b.0 b.1 in
      let P : (ℕ × (List Atom × ℕ)) × List Lexeme → Type 0 = λ y. (text : List Lexeme) × (s ≡ text ++ y.1) × Fit (with_brace y.0) text in
      let whole : P ((a.0.0, b.0.0), b.0.1) = (t.0 ++ u.0, t.1 ∙ ap (λ (w : List Lexeme). t.0 ++ w) u.1 ∙ sym (append_assoc t.0 u.0 b.0.1), Fit-join (one class.Open a.0.0) (flat_within false 0 b.0.0.0 b.0.0.1) t.0 u.0 t.2 u.2) in
      subst P (some_is ((a.0.0, b.0.0), b.0.1) (x, r) b.2) whole

  complete : (x : ℕ × (List Atom × ℕ)) (text r : List Lexeme) → Fit (with_brace x) text → Stops never r → (token (want.One class.Open) then within_at false 0) (text ++ r) ≡ Some (x, r)
  complete x [] r h k = absurd h
  complete x (l ∷ t) r h k = rw (brace_then l (t ++ r) h.0, h.1, within_complete false 0 x.1.0 x.1.1 t r h.2) refl

-- ---- the loop that reads it

-- what was read before, and what is still read
abbrev pub with_atoms : List Atom → Read (List Atom × ℕ) → Read (List Atom × ℕ)
with_atoms front read = option_and_then (λ x. Some ((front ++ x.0.0, x.0.1), x.1)) read

-- how far the loop has come
pub record IsWithin (tokens : List Lexeme) (atoms : List Atom) (colon : Bool) (depth counter : ℕ) (rest : List Lexeme) : Type 0 where
  pub same : with_atoms atoms (within_at colon depth rest) ≡ within_at false 0 tokens
  pub shallow : depth ≤ counter
  pub long : length rest + counter ≡ length tokens

nothing_before : (read : Read (List Atom × ℕ)) → with_atoms [] read ≡ read
nothing_before (Some x) = refl
nothing_before None = refl

pub within_start : (tokens : List Lexeme) → IsWithin tokens [] false 0 0 tokens
within_start tokens = record { same = nothing_before (within_at false 0 tokens); shallow = omega arith; long = omega arith }

regroup : (front : List Atom) (a : Atom) (read : Read (List Atom × ℕ)) → with_atoms front (put_atom a read) ≡ with_atoms (front ++ a ∷ []) read
regroup front a (Some x) = ap (λ (ns : List Atom). Some ((ns, x.0.1), x.1)) (sym (append_assoc front (a ∷ []) x.0.0))
regroup front a None = refl

-- one token more
pub within_more : {tokens : List Lexeme} {atoms : List Atom} {colon : Bool} {depth counter : ℕ} {rest : List Lexeme} (l : Lexeme) (after : List Lexeme) (a : Atom) (now : Bool) (deep : ℕ)
    → IsWithin tokens atoms colon depth counter rest → rest ≡ l ∷ after → within_at colon depth (l ∷ after) ≡ put_atom a (within_at now deep after) → deep ≤ depth + 1
    → IsWithin tokens (atoms ++ a ∷ []) now deep (counter + 1) after
within_more {tokens = tokens} {atoms = atoms} {colon = colon} {depth = depth} {counter = counter} {rest = rest} l after a now deep h e step le = record {
  same = sym (regroup atoms a (within_at now deep after)) ∙ ap (with_atoms atoms) (sym step) ∙ ap (λ (s : List Lexeme). with_atoms atoms (within_at colon depth s)) (sym e) ∙ h.same;
  shallow = omega (arith, h.shallow);
  long = omega (arith, h.long, ap length e);
}
