-- Header fields have names.
use Rattle.std.proofs.Common.{◌≡◌, ℕ, ◌<◌, Bool, true, false, cond, ◌==◌, ◌&&◌, ◌||◌, [], ◌∷◌, ◌++◌, length, Option, Result, Ok, Err, refl, sym, ap, ◌∙◌, codes, inl, inr, arith, length-append}
use Rattle.std.specs.Prelude.{◌⊎◌}
use Rattle.std.proofs.lemmas.Bool.Decides.{nat_tests}
use Rattle.proto_base.specs.Ascii as ascii
use Rattle.proto_base.specs.Texts.{Text}
use Rattle.proto_frames.specs.Frames.{field, has_separator, is_named, named_field}
use Rattle.proto_frames.specs.Grammar.{IsNamed}
use Rattle.proto_frames.specs.declared.fault.FrameFault.{FrameFault}
use Rattle.proto_frames.specs.declared.fault.FrameFault.TheVariants.{Malformed}
use Rattle.proto_frames.proofs.Lines.{cond_true}

either : (a b : Bool) → (a || b) ≡ true → (a ≡ true) ⊎ (b ≡ true)
either true b is = inl refl
either false b is = inr is

or_right : (a b : Bool) → b ≡ true → (a || b) ≡ true
or_right true b is = refl
or_right false b is = is

both : (a b : Bool) → (a && b) ≡ true → (a ≡ true) × (b ≡ true)
both true b is = (refl, is)
both false b is = absurd cc

-- where a separator was found: its space comes first, or it is in the text
abbrev Found : Bool → Text → Type 0
Found after text =
    ((after ≡ true) × ((rest : Text) × (text ≡ ascii.space ∷ rest))) ⊎ ((name : Text) × ((value : Text) × (text ≡ name ++ (codes ": " ++ value))))

found : (after : Bool) (text : Text) → has_separator after text ≡ true → Found after text
found after [] is = absurd cc
found after (b ∷ bs) is =
    elim (either (after && b == ascii.space) (has_separator (b == ascii.colon) bs) is) [
      | inl now ↦
          let p = both after (b == ascii.space) now in
          let space : b ≡ ascii.space = grind (arith, nat_tests, p.1) in
          inl (p.0, (bs, ap (λ n. n ∷ bs) space))
      | inr later ↦
          elim (found (b == ascii.colon) bs later) [
            | inl here ↦
                let colon : b ≡ ascii.colon = grind (arith, nat_tests, here.0) in
                inr ([], (here.1.0, ap (λ n. n ∷ bs) colon ∙ ap (λ (t : Text). ascii.colon ∷ t) here.1.1))
            | inr there ↦ inr (b ∷ there.0, (there.1.0, ap (λ (t : Text). b ∷ t) there.1.1))
          ]
    ]

pub named_is : (line : Text) → is_named line ≡ true → IsNamed line
named_is [] is = absurd cc
named_is (b ∷ bs) is =
    elim (found false bs is) [
      | inl here ↦ absurd cc
      | inr there ↦ (b ∷ there.0, there.1.0, omega arith, ap (λ (t : Text). b ∷ t) there.1.1)
    ]

separator_first : (after : Bool) (value : Text) → has_separator after (codes ": " ++ value) ≡ true
separator_first true value = refl
separator_first false value = refl

separator_there : (after : Bool) (name value : Text) → has_separator after (name ++ (codes ": " ++ value)) ≡ true
separator_there after [] value = separator_first after value
separator_there after (b ∷ name) value = or_right (after && b == ascii.space) (has_separator (b == ascii.colon) (name ++ (codes ": " ++ value))) (separator_there (b == ascii.colon) name value)

named_from : (line name value : Text) → 0 < length name → line ≡ name ++ (codes ": " ++ value) → is_named line ≡ true
named_from line [] value some is = absurd (omega arith)
named_from line (b ∷ name) value some is = ap is_named is ∙ separator_there false name value

pub is_named_line : (line : Text) → IsNamed line → is_named line ≡ true
is_named_line line named = named_from line named.0 named.1 named.2 named.3

pub named_some : (line : Text) → IsNamed line → 0 < length line
named_some line named = omega (arith, ap length named.3, length-append named.0 (codes ": " ++ named.1), named.2)

pub field_named : (len : Option ℕ) (line : Text) → IsNamed line → field len line ≡ named_field len line
field_named len line named = cond_true (is_named line) (named_field len line) (Err Malformed) (is_named_line line named)

abbrev lengthed : Option ℕ → Result (Option ℕ) FrameFault
lengthed o = Ok o

refused : (b : Bool) (r : Result (Option ℕ) FrameFault) (now : Option ℕ) → b ≡ false → cond b r (Err Malformed) ≡ lengthed now → ⊥
refused true r now differs is = cc
refused false r now differs is = cc

-- what a field is that was read
pub named_of : (len now : Option ℕ) (line : Text) → field len line ≡ lengthed now → IsNamed line × (named_field len line ≡ lengthed now)
named_of len now line is = go (is_named line) refl
  where
    go : (b : Bool) → is_named line ≡ b → IsNamed line × (named_field len line ≡ lengthed now)
    go true named = (named_is line named, sym (cond_true (is_named line) (named_field len line) (Err Malformed) named) ∙ is)
    go false named = absurd (refused (is_named line) (named_field len line) now named is)
