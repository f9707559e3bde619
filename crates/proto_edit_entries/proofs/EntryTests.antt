-- The tests of a change say what its definition says.
use Rattle.std.proofs.Common.{◌≡◌, ℕ, ◌+◌, ◌<◌, ◌≤◌, Bool, true, false, not, eqb, List, length, map, refl, sym, ap, subst, ◌∙◌, eq-eqb, IsTrue, ◌↔◌, All, sum_by, string_bytes, eqb-true}
use Rattle.proto_base.proofs.Common.{length-map, get_or-map, All-map}
use Rattle.proto_text.specs.declared.splice.Splice.{Splice}
use Rattle.proto_text.proofs.Common.{Edit, edit_of, edits}
use Rattle.proto_edit_entries.specs.declared.entry.Change.{Change}
use Rattle.proto_edit_entries.specs.Entries.{change_of, IsToldApart, HasLengths, IsChange, AreRising, IsEntry}
use Rattle.proto_edit_entries.proofs.EntrySums.{old_of, new_of, sum_edits}

-- what holds of each mapped item holds of each item
unmapped : {X Y : Type 0} (P : X → Type 0) (f : Y → X) (ys : List Y) → All P (map f ys) → All (λ y. P (f y)) ys
unmapped P f ys h k d lt = subst P (get_or-map f ys k d (f d) lt) (h k (f d) (subst (λ (n : ℕ). k < n) (sym (length-map ys f)) lt))

pub not_both : (b : Bool) → IsTrue (not b) → IsTrue b → ⊥
not_both true h k = cc
not_both false h k = cc

pub not_true : (b : Bool) → (IsTrue b → ⊥) → IsTrue (not b)
not_true true h = absurd (h refl)
not_true false h = refl

pub told_apart : (ss : List Splice) (b : Bool) → All (λ s. length (string_bytes s.old) ≡ length (string_bytes s.new)) ss → IsTrue b ↔ All (λ s. string_bytes s.old ≡ string_bytes s.new) ss → IsTrue (not b) ↔ IsToldApart (edits ss)
told_apart ss b lengths same = (
  (λ h. record { same_lengths = All-map (λ (e : Edit). length e.old ≡ length e.new) edit_of ss lengths; differs = λ all. not_both b h (same.1 (unmapped (λ (e : Edit). e.old ≡ e.new) edit_of ss all)) }),
  (λ t. not_true b (λ h. t.differs (All-map (λ (e : Edit). e.old ≡ e.new) edit_of ss (same.0 h)))),
)

pub no_lengths : (ss : List Splice) (b : Bool) → b ≡ false → IsTrue b ↔ All (λ s. length (string_bytes s.old) ≡ length (string_bytes s.new)) ss → IsTrue b ↔ IsToldApart (edits ss)
no_lengths ss b e is = ((λ h. absurd (differ (sym e ∙ h))), (λ t. is.1 (unmapped (λ (x : Edit). length x.old ≡ length x.new) edit_of ss t.same_lengths)))
  where
    differ : false ≡ true → ⊥
    differ z = cc

pub lengths_are : (ss : List Splice) (before after old new : ℕ) → old ≡ sum_by old_of ss → new ≡ sum_by new_of ss → All (λ s. s.at + length (string_bytes s.old) ≤ before) ss
    → IsTrue (eqb (after + old) (before + new)) ↔ HasLengths (edits ss) before after
lengths_are ss before after old new o n within =
    let old_is : old ≡ sum_by (λ (e : Edit). length e.old) (edits ss) = o ∙ sym (sum_edits (λ (e : Edit). length e.old) ss) in
    let new_is : new ≡ sum_by (λ (e : Edit). length e.new) (edits ss) = n ∙ sym (sum_edits (λ (e : Edit). length e.new) ss) in (
      (λ h. record {
        within = All-map (λ (e : Edit). e.at + length e.old ≤ before) edit_of ss within;
        lengths = ap (λ (k : ℕ). after + k) (sym old_is) ∙ eqb-true (after + old) (before + new) h ∙ ap (λ (k : ℕ). before + k) new_is;
      }),
      (λ h. eq-eqb (after + old) (before + new) (ap (λ (k : ℕ). after + k) old_is ∙ h.lengths ∙ ap (λ (k : ℕ). before + k) (sym new_is))),
    )

pub not_within : (ss : List Splice) (before after : ℕ) (b : Bool) → b ≡ false → IsTrue b ↔ All (λ s. s.at + length (string_bytes s.old) ≤ before) ss → IsTrue b ↔ HasLengths (edits ss) before after
not_within ss before after b e is = ((λ h. absurd (differ (sym e ∙ h))), (λ t. is.1 (unmapped (λ (x : Edit). x.at + length x.old ≤ before) edit_of ss t.within)))
  where
    differ : false ≡ true → ⊥
    differ z = cc

pub entry_is : (cs : List Change) (b : Bool) → (length cs ≡ 0 → ⊥) → AreRising (map change_of cs) → IsTrue b ↔ All (λ c. IsChange (change_of c)) cs → IsTrue b ↔ IsEntry (map change_of cs)
entry_is cs b some rising is = (
  (λ h. record { some = λ e. some (sym (length-map cs change_of) ∙ ap length e); rising = rising; each = All-map IsChange change_of cs (is.0 h) }),
  (λ e. is.1 (unmapped IsChange change_of cs e.each)),
)
