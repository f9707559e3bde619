-- The places of each custom option of a tree stand in it, one behind another (for the crates above).
use Rattle.std.proofs.Common.{List, [], ◌∷◌, ◌++◌, sym, ap, ◌∙◌, inl, inr, arith, append_assoc, append-nil, codes, Contains}
use Rattle.proto_base.proofs.Common.{Contains-append_cases, contains_cases}
use Rattle.proto_base.specs.Texts.{Text}
use Rattle.proto_tree.specs.declared.tree.Custom.{Custom}
use Rattle.proto_tree.specs.Flat.{Mark, flat_custom}
use Rattle.proto_custom_options.proofs.EachCustom.{of_tree}
use Rattle.proto_custom_options.specs.CustomOptions.{CustomOf, CustomsStand, IsStretch}

in_left : (a b xs : List Mark) → IsStretch a xs → IsStretch (a ++ b) xs
in_left a b xs s = record {
  front = s.front;
  back = s.back ++ b;
  is = ap (λ ms. ms ++ b) s.is ∙ append_assoc s.front (xs ++ s.back) b ∙ ap (λ ms. s.front ++ ms) (append_assoc xs s.back b);
}

in_right : (a b xs : List Mark) → IsStretch b xs → IsStretch (a ++ b) xs
in_right a b xs s = record {
  front = a ++ s.front;
  back = s.back;
  is = ap (λ ms. a ++ ms) s.is ∙ sym (append_assoc a s.front (xs ++ s.back));
}

-- each option is a stretch of the places
abbrev AreIn : List Mark → List CustomOf → Type 0
AreIn ms cs = (c : CustomOf) → Contains cs c → IsStretch ms (flat_custom c.custom)

none : (ms : List Mark) → AreIn ms []
none ms c k = absurd (omega (arith, k.1))

both : (a b : List Mark) (cs ds : List CustomOf) → AreIn a cs → AreIn b ds → AreIn (a ++ b) (cs ++ ds)
both a b cs ds f g c k = elim (Contains-append_cases cs ds c k) [
  | inl x ↦ in_left a b (flat_custom c.custom) (f c x)
  | inr y ↦ in_right a b (flat_custom c.custom) (g c y)
]

custom : (message : Text) (c : Custom) → AreIn (flat_custom c) (record { message = message; custom = c } ∷ [])
custom message c d k = elim (contains_cases (record { message = message; custom = c }) d [] k) [
  | inl e ↦ record { front = []; back = []; is = ap (λ (x : CustomOf). flat_custom x.custom) e ∙ sym (append-nil (flat_custom d.custom)) }
  | inr x ↦ absurd (omega (arith, x.1))
]

pub customs_stand : CustomsStand
customs_stand t c k = of_tree AreIn none both custom (codes "FileOptions") t c k
