-- Edits of which all editors make the same.
use Rattle.std.proofs.Common.{◌≡◌, ◌↔◌, ℕ, ◌+◌, ◌<◌, ◌≤◌, Bool, true, false, All, List, length, map, IsTrue, sym, ◌∙◌, subst, inl, inr, string_bytes}
use Rattle.proto_base.proofs.Common.{AllByRecursion, All-from_recursion, All-map, All-weaker, Text, get_or-map, length-map}
use Rattle.proto_text.proofs.Common.{Edit, edit_of, edits}
use Rattle.proto_text.specs.declared.splice.Splice.{Splice}
use Rattle.proto_positions.specs.TextEdits.{HavePositions}
use Rattle.proto_answers.specs.Common.{HasLoneReturn, HasNoLineEnd, HasNoMixedEnds, HasNoReturn, SuitEditors}
use Rattle.proto_answers.proofs.LoneReturns.{none_is, some_is}

differ : false ≡ true → ⊥
differ e = cc

-- ---- new line ends

-- what holds of each edit holds of each splice
unmapped : {X Y : Type 0} (P : X → Type 0) (f : Y → X) (ys : List Y) → All P (map f ys) → All (λ y. P (f y)) ys
unmapped P f ys h k d lt = subst P (get_or-map f ys k d (f d) lt) (h k (f d) (subst (λ (n : ℕ). k < n) (sym (length-map ys f)) lt))

pub no_return_is : (text : Text) (es : List Edit) (b : Bool) → b ≡ true → IsTrue b ↔ HasNoReturn text → IsTrue true ↔ HasNoMixedEnds text es
no_return_is text es b holds test = some_is (inl (test.0 holds))

pub ends_tell : (text : Text) (es : List Edit) (ss : List Splice) (b r : Bool) → edits ss ≡ es → b ≡ false → IsTrue b ↔ HasNoReturn text
    → IsTrue r ↔ All (λ s. HasNoLineEnd (string_bytes s.new)) ss → IsTrue r ↔ HasNoMixedEnds text es
ends_tell text es ss b r same fails test ends = (
  λ h. inr (subst (All (λ (d : Edit). HasNoLineEnd d.new)) same (All-map (λ (d : Edit). HasNoLineEnd d.new) edit_of ss (ends.0 h))),
  λ m. elim m [
    | inl none ↦ absurd (differ (sym fails ∙ test.1 none))
    | inr all ↦ ends.1 (unmapped (λ (d : Edit). HasNoLineEnd d.new) edit_of ss (subst (All (λ (d : Edit). HasNoLineEnd d.new)) (sym same) all))
  ],
)

-- ---- all that suits

module _ (text : Text) (es : List Edit) where
  pub lone_suits_none : (b : Bool) → b ≡ true → IsTrue b ↔ HasLoneReturn text → IsTrue false ↔ SuitEditors text es
  lone_suits_none b holds test = none_is (λ s. s.lines (test.0 holds))

  pub within_suits_none : (b : Bool) → b ≡ false → IsTrue b ↔ AllByRecursion (HavePositions text) es → IsTrue false ↔ SuitEditors text es
  within_suits_none b fails test = none_is (λ s. differ (sym fails ∙ test.1 s.positions))

  pub ends_suit : (b d r : Bool) → b ≡ false → IsTrue b ↔ HasLoneReturn text → d ≡ true → IsTrue d ↔ AllByRecursion (HavePositions text) es → IsTrue r ↔ HasNoMixedEnds text es → IsTrue r ↔ SuitEditors text es
  ends_suit b d r fails lone holds there ends = (
    λ h. record { lines = λ has. differ (sym fails ∙ lone.1 has); positions = there.0 holds; ends = ends.0 h },
    λ s. ends.1 s.ends,
  )

  -- they lie in the text
  pub suited_within : SuitEditors text es → All (λ d. d.at + length d.old ≤ length text) es
  suited_within s = All-weaker (HavePositions text) (λ (d : Edit). d.at + length d.old ≤ length text) (λ d h. h.1.boundary.0) es (All-from_recursion (HavePositions text) es s.positions)
