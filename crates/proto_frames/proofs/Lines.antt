-- A line of a header, byte by byte.
use Rattle.std.proofs.Common.{◌≡◌, ◌≢◌, ℕ, suc, Bool, true, false, cond, ◌==◌, [], ◌∷◌, ◌++◌, Result, Ok, Err, refl, sym, ap, subst, ◌∙◌, append_assoc, arith}
use Rattle.std.proofs.lemmas.Bool.Decides.{nat_tests}
use Rattle.std.proofs.lemmas.List.{append-nil}
use Rattle.proto_base.specs.Ascii as ascii
use Rattle.proto_base.specs.Texts.{Text}
use Rattle.proto_frames.specs.Frames.{Fails, line_at, line_ended, with_prefix}
use Rattle.proto_frames.specs.declared.fault.FrameFault.{FrameFault}
use Rattle.proto_frames.specs.declared.fault.FrameFault.TheVariants.{Malformed, TooLong, Cut, Input, NoMemory}

abbrev pub Line : Type 0
Line = Result (Text × Text) FrameFault

pub cond_true : {A : Type 0} (b : Bool) (x y : A) → b ≡ true → cond b x y ≡ x
cond_true true x y is = refl
cond_true false x y is = absurd cc

pub cond_false : {A : Type 0} (b : Bool) (x y : A) → b ≡ false → cond b x y ≡ y
cond_false true x y is = absurd cc
cond_false false x y is = refl

pub no_prefix : (prefix : Text) (r : Line) → prefix ≡ [] → with_prefix prefix r ≡ r
no_prefix prefix (Ok x) none = ap (λ (t : Text). ok (t ++ x.0) x.1) none
  where
    ok : Text → Text → Line
    ok a b = Ok (a, b)
no_prefix prefix (Err e) none = refl

two_prefixes : (a b : Text) (r : Line) → with_prefix a (with_prefix b r) ≡ with_prefix (a ++ b) r
two_prefixes a b (Ok x) = ap (λ (t : Text). ok t x.1) (sym (append_assoc a b x.0))
  where
    ok : Text → Text → Line
    ok s t = Ok (s, t)
two_prefixes a b (Err e) = refl

-- the same at what the rest is
at : (prefix : Text) (k less : ℕ) (rest now : Text) (read : Line) → k ≡ suc less → rest ≡ now → with_prefix prefix (line_at k rest) ≡ read → with_prefix prefix (line_at (suc less) now) ≡ read
at prefix k less rest now read one is so = subst (λ (t : Text). with_prefix prefix (line_at (suc less) t) ≡ read) is (subst (λ n. with_prefix prefix (line_at n rest) ≡ read) one so)

pub cut_off : (prefix : Text) (k less : ℕ) (rest : Text) (read : Line) → k ≡ suc less → rest ≡ [] → with_prefix prefix (line_at k rest) ≡ read → read ≡ Err Cut
unfolding line_at
cut_off prefix k less rest read one is so = sym (at prefix k less rest [] read one is so)

pub feed_alone : (prefix : Text) (k less : ℕ) (rest more : Text) (read : Line) → k ≡ suc less → rest ≡ ascii.line_feed ∷ more → with_prefix prefix (line_at k rest) ≡ read → read ≡ Err Malformed
unfolding line_at
feed_alone prefix k less rest more read one is so = sym (at prefix k less rest (ascii.line_feed ∷ more) read one is so)

pub line_ends : (prefix : Text) (k less : ℕ) (rest more : Text) (read : Line) → k ≡ suc less → rest ≡ ascii.carriage_return ∷ more → with_prefix prefix (line_at k rest) ≡ read
    → read ≡ with_prefix prefix (line_ended more)
unfolding line_at
line_ends prefix k less rest more read one is so = sym (at prefix k less rest (ascii.carriage_return ∷ more) read one is so)

pub goes_on : (prefix : Text) (k less : ℕ) (rest : Text) (b : ℕ) (more : Text) (read : Line) → k ≡ suc less → rest ≡ b ∷ more → b ≢ ascii.carriage_return → b ≢ ascii.line_feed
    → with_prefix prefix (line_at k rest) ≡ read → with_prefix (prefix ++ (b ∷ [])) (line_at less more) ≡ read
unfolding line_at
goes_on prefix k less rest b more read one is no_return no_feed so =
    let here : (b == ascii.carriage_return) ≡ false = grind (arith, nat_tests) in
    let there : (b == ascii.line_feed) ≡ false = grind (arith, nat_tests) in
    sym (two_prefixes prefix (b ∷ []) (line_at less more))
    ∙ sym (ap (with_prefix prefix) (cond_false (b == ascii.carriage_return) (line_ended more) (cond (b == ascii.line_feed) (Err Malformed) (with_prefix (b ∷ []) (line_at less more))) here
    ∙ cond_false (b == ascii.line_feed) (Err Malformed) (with_prefix (b ∷ []) (line_at less more)) there))
    ∙ at prefix k less rest (b ∷ more) read one is so

pub spent : (prefix : Text) (k : ℕ) (rest : Text) (read : Line) → k ≡ 0 → with_prefix prefix (line_at k rest) ≡ read → read ≡ Err Malformed
unfolding line_at
spent prefix k rest read none so = sym (subst (λ n. with_prefix prefix (line_at n rest) ≡ read) none so)

pub fails_on : (e : FrameFault) (prefix : Text) (ended read : Line) → read ≡ with_prefix prefix ended → Fails e ended → Fails e read
fails_on Input prefix ended read is f = tt
fails_on NoMemory prefix ended read is f = tt
fails_on Malformed prefix ended read is f = is ∙ ap (with_prefix prefix) f
fails_on TooLong prefix ended read is f = is ∙ ap (with_prefix prefix) f
fails_on Cut prefix ended read is f = is ∙ ap (with_prefix prefix) f

pub is_line : (prefix : Text) (rest : Text) (ended read : Line) → read ≡ with_prefix prefix ended → ended ≡ Ok ([], rest) → read ≡ Ok (prefix, rest)
is_line prefix rest ended read is f = is ∙ ap (with_prefix prefix) f ∙ ap (λ (t : Text). ok t rest) (append-nil prefix)
  where
    ok : Text → Text → Line
    ok s t = Ok (s, t)
