-- One change more in a log, one rolled back, and elements that were added since.
use Rattle.std.proofs.Common.{◌≡◌, ℕ, zero, suc, ◌<◌, List, [], ◌∷◌, ◌++◌, length, get_or, slice_set, take, refl, sym, ◌∙◌, ap, subst, inl, inr, arith}
use Rattle.std.proofs.lemmas.List.{set-get_or, set-set, take-set-le}
use Rattle.std.proofs.Math.Seq.{take-set-lt}
use Rattle.proto_base.proofs.Common.{cases_lt, take-append-le}
use Rattle.proto_base.specs.Undone.{AddedAreCut, AreWithin, undone}
use Rattle.proto_base.specs.declared.changes.Change.{Change}

pub undone_more : {T : Type 0} (log : List (Change T)) (items : List T) (c : Change T) → undone (log ++ c ∷ []) items ≡ undone log (slice_set items c.place c.was)
undone_more [] items c = refl
undone_more (d ∷ log) items c = ap (λ z. slice_set z d.place d.was) (undone_more log items c)

-- a change with what stood there is no change
pub changed_back : {T : Type 0} (log : List (Change T)) (items : List T) (place : ℕ) (value was : T) → was ≡ get_or items place was → undone (log ++ record { place = place; was = was } ∷ []) (slice_set items place value) ≡ undone log items
changed_back log items place value was e =
    undone_more log (slice_set items place value) (record { place = place; was = was })
    ∙ ap (undone log) (set-set items place value was ∙ ap (slice_set items place) e ∙ set-get_or items place was)

-- the log without its last change is of places of the list, and so is that change
pub all_but_last : {T : Type 0} (count : ℕ) (log whole : List (Change T)) (c : Change T) → whole ≡ log ++ c ∷ [] → AreWithin count whole → AreWithin count log × (c.place < count)
all_but_last count [] whole c e h = (λ k d l. absurd (omega (arith, l)), subst (λ (z : List _). 0 < length z → (get_or z 0 c).place < count) e (λ l. h 0 c l) (omega arith))
all_but_last count (d ∷ log) whole c e h =
    let h' : AreWithin count (d ∷ (log ++ c ∷ [])) = subst (λ (z : List _). AreWithin count z) e h in
    let r = all_but_last count log (log ++ c ∷ []) c refl (λ k d l. h' (suc k) d (omega (arith, l))) in
    (λ k d l. go k d l r.0 (h' 0 d (omega arith)), r.1)
  where
    go : (k : ℕ) (b : _) → k < length (d ∷ log) → AreWithin count log → d.place < count → (get_or (d ∷ log) k b).place < count
    go zero b l rest first = first
    go (suc k) b l rest first = rest k b (omega (arith, l))

-- one change of two lists with the same first elements
take_set : {T : Type 0} (count : ℕ) (xs ys : List T) (place : ℕ) (value : T) → take count xs ≡ take count ys → take count (slice_set xs place value) ≡ take count (slice_set ys place value)
take_set count xs ys place value e = elim (cases_lt place count) [
  | inl there ↦ take-set-lt count xs place value there ∙ ap (λ z. slice_set z place value) e ∙ sym (take-set-lt count ys place value there)
  | inr past ↦ take-set-le count xs place value past ∙ e ∙ sym (take-set-le count ys place value past)
]

pub added_are_cut : {T : Type 0} → AddedAreCut T
added_are_cut [] items added count l = take-append-le count items added l
added_are_cut (c ∷ log) items added count l = take_set count (undone log (items ++ added)) (undone log items) c.place c.was (added_are_cut log items added count l)
