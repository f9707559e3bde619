-- Public for the crates above. A store that is torn between the files before and after an entry: each file of the entry is as before or as after it.
use Rattle.std.proofs.Common.{arith, ◌≡◌, ◌⊎◌, inl, inr, ℕ, ◌+◌, ◌-◌, ◌≤◌, Bool, true, false, cond, List, [], ◌∷◌, length, Some, refl, sym, ap, ◌∙◌, subst, Contains, bytes_eq}
use Rattle.proto_base.proofs.Common.{bytes_eq-Decides, contains_cases, contains_head, contains_later, contains_map, from_map}
use Rattle.proto_text.specs.Edits.{AreShort, Edit, Puts, inverse_from, inverse_of, new_len, old_len}
use Rattle.proto_files.specs.GivenFiles.{FileOf}
use Rattle.proto_edit_entries.proofs.Common.{ChangeOf, IsChange, IsEntry, inverted, turned_round, EachPuts, IsPut, IsEven, contains_none, entries_lead_back, measured_is_even, put_back}
use Rattle.proto_journal_records.specs.Common.{TornBetweenIsTorn, IsAsBefore, IsEitherWay, IsTorn, IsTornBetween, Version, RecordOf}
use Rattle.proto_store.specs.Stores.{Held, bytes_at}

-- ---- the file of a change

-- what stands at the path of a change, before and after
pub record IsAt (c : ChangeOf) (w after : List FileOf) : Type 0 where
  pub old : List ℕ
  pub new : List ℕ
  pub before_it : bytes_at c.path w ≡ Some old
  pub after_it : bytes_at c.path after ≡ Some new
  pub len : length old ≡ c.before
  pub puts : Puts 0 old c.splices new

at_first : (c : ChangeOf) (f : FileOf) (fs : List FileOf) → bytes_eq c.path f.path ≡ true → bytes_at c.path (f ∷ fs) ≡ Some f.bytes
at_first c f fs e = ap (λ (b : Bool). cond b (Some f.bytes) (bytes_at c.path fs)) e

at_later : (c : ChangeOf) (f : FileOf) (fs : List FileOf) → bytes_eq c.path f.path ≡ false → bytes_at c.path (f ∷ fs) ≡ bytes_at c.path fs
at_later c f fs e = ap (λ (b : Bool). cond b (Some f.bytes) (bytes_at c.path fs)) e

differ : {P : Type 0} → false ≡ true → P
differ e = cc

found : (cs : List ChangeOf) (c : ChangeOf) (w after : List FileOf) (f : FileOf) → Contains cs c → EachPuts cs w after → Contains w f → f.path ≡ c.path → IsAt c w after
found cs c [] after f k p has path = absurd (contains_none f has)
found cs c (g ∷ gs) [] f k p has path = absurd p
found cs c (g ∷ gs) (h ∷ hs) f k p has path = go (bytes_eq c.path g.path) refl (λ more. found cs c gs hs f k p.1 more path)
  where
    there : (b : Bool) → bytes_eq c.path g.path ≡ b → bytes_eq c.path h.path ≡ b
    there b e = ap (bytes_eq c.path) p.0.path ∙ e

    behind : bytes_eq c.path g.path ≡ false → Contains gs f
    behind e = elim (contains_cases g f gs has) [
      | inl same ↦ differ (sym e ∙ (bytes_eq-Decides c.path g.path).1 (sym (ap (λ (z : FileOf). z.path) same ∙ path)))
      | inr more ↦ more
    ]

    go : (b : Bool) → bytes_eq c.path g.path ≡ b → (Contains gs f → IsAt c gs hs) → IsAt c (g ∷ gs) (h ∷ hs)
    go true e rest =
        let put : (length g.bytes ≡ c.before) × Puts 0 g.bytes c.splices h.bytes = p.0.changed c k ((bytes_eq-Decides c.path g.path).0 e) in
        record { old = g.bytes; new = h.bytes; before_it = at_first c g gs e; after_it = at_first c h hs (there true e); len = put.0; puts = put.1 }
    go false e rest =
        let r : IsAt c gs hs = rest (behind e) in
        record { old = r.old; new = r.new; before_it = at_later c g gs e ∙ r.before_it; after_it = at_later c h hs (there false e) ∙ r.after_it; len = r.len; puts = r.puts }

pub put_at : (cs : List ChangeOf) (c : ChangeOf) (w after : List FileOf) → Contains cs c → IsPut w cs after → IsAt c w after
put_at cs c w after k p = let t = p.there c k in found cs c w after t.0 k p.each t.1 t.2

-- ---- as before, or as after

pub as_before : (c : ChangeOf) (w after : List FileOf) (x : IsAt c w after) → IsAsBefore c x.old
as_before c w after x = record { len = x.len; new = x.new; puts = x.puts }

-- torn between two lists of files, of which the one leads to the other by the changes, and this one back by those turned round
either_way : (c : ChangeOf) (before after files : List FileOf) → IsAt c before after → IsAt (turned_round c) after before
    → (bytes_at c.path files ≡ bytes_at c.path before) ⊎ (bytes_at c.path files ≡ bytes_at c.path after) → IsEitherWay files c
either_way c before after files x y b = elim b [
  | inl e ↦ record { text = x.old; there = e ∙ x.before_it; either = inl (as_before c before after x) }
  | inr e ↦ record { text = y.old; there = e ∙ y.before_it; either = inr (as_before (turned_round c) after before y) }
]

pub torn_at : (v : Version) (records : List RecordOf) (entry : List ChangeOf) (before after : List FileOf) (held : Held) → IsPut before entry after → IsPut after (inverted entry) before
    → IsTornBetween v records entry before after held → IsTorn v records entry held
torn_at v records entry before after held put back torn = record {
  edit = torn.edit;
  journal = torn.journal;
  files = λ c k. either_way c before after held.files (put_at entry c before after k put)
      (put_at (inverted entry) (turned_round c) after before (contains_map turned_round entry c k) back) (torn.files.bytes c.path);
}

pub torn_between_is_torn : TornBetweenIsTorn
torn_between_is_torn v records entry before after held is put torn = torn_at v records entry before after held put (entries_lead_back before after entry is put) torn

-- ---- turned round twice

twice_edit : (to from : ℕ) (e : Edit) → from ≤ e.at → inverse_of from to (inverse_of to from e) ≡ e
twice_edit to from e le =
    let place : from + ((to + (e.at - from)) - to) ≡ e.at = omega arith in
    ap (λ (n : ℕ). let x : Edit = record { at = n; old = e.old; new = e.new } in x) place

pub twice_from : (to from : ℕ) (es : List Edit) → AreShort to from es → inverse_from from to (inverse_from to from es) ≡ es
twice_from to from [] h = refl
twice_from to from (e ∷ es) h =
    let place : from + ((to + (e.at - from)) - to) ≡ e.at = omega (arith, h.0) in
    let rest : inverse_from (e.at + length e.old) ((to + (e.at - from)) + length e.new) (inverse_from ((to + (e.at - from)) + length e.new) (e.at + length e.old) es) ≡ es =
    twice_from ((to + (e.at - from)) + length e.new) (e.at + length e.old) es h.3 in
    let behind : inverse_from ((from + ((to + (e.at - from)) - to)) + length e.old) ((to + (e.at - from)) + length e.new) (inverse_from ((to + (e.at - from)) + length e.new) (e.at + length e.old) es) ≡ es =
    ap (λ (n : ℕ). inverse_from (n + length e.old) ((to + (e.at - from)) + length e.new) (inverse_from ((to + (e.at - from)) + length e.new) (e.at + length e.old) es)) place ∙ rest in
    let first : inverse_of from to (inverse_of to from e) ≡ e = twice_edit to from e h.0 in
    λ i. first i ∷ behind i

twice : (c : ChangeOf) → AreShort 0 0 c.splices → turned_round (turned_round c) ≡ c
twice c h = ap (λ (s : List Edit). let x : ChangeOf = record { path = c.path; before = c.before; after = c.after; splices = s } in x) (twice_from 0 0 c.splices h)

all_twice : (cs : List ChangeOf) → ((c : ChangeOf) → Contains cs c → AreShort 0 0 c.splices) → inverted (inverted cs) ≡ cs
all_twice [] h = refl
all_twice (c ∷ cs) h =
    let first : turned_round (turned_round c) ≡ c = twice c (h c (contains_head c cs)) in
    let rest : inverted (inverted cs) ≡ cs = all_twice cs (λ d k. h d (contains_later c d cs k)) in
    λ i. first i ∷ rest i

old_turned : (to from : ℕ) (es : List Edit) → old_len (inverse_from to from es) ≡ new_len es
old_turned to from [] = refl
old_turned to from (e ∷ es) = ap (λ (n : ℕ). length e.new + n) (old_turned ((to + (e.at - from)) + length e.new) (e.at + length e.old) es)

new_turned : (to from : ℕ) (es : List Edit) → new_len (inverse_from to from es) ≡ old_len es
new_turned to from [] = refl
new_turned to from (e ∷ es) = ap (λ (n : ℕ). length e.old + n) (new_turned ((to + (e.at - from)) + length e.new) (e.at + length e.old) es)

pub even_turned : (c : ChangeOf) → IsEven c → IsEven (turned_round c)
even_turned c even = ap (λ (n : ℕ). c.before + n) (old_turned 0 0 c.splices) ∙ sym even ∙ ap (λ (n : ℕ). c.after + n) (sym (new_turned 0 0 c.splices))

pub change_in : (entry : List ChangeOf) → IsEntry entry → (c : ChangeOf) → Contains entry c → IsChange c
change_in entry is c k = subst IsChange k.2 (is.each k.0 c k.1)

-- what an undo leaves leads forth again
pub leads_forth : (entry : List ChangeOf) (before after : List FileOf) → IsEntry entry → IsPut after (inverted entry) before → IsPut before entry after
leads_forth entry before after is put =
    let even : (d : ChangeOf) → Contains (inverted entry) d → IsEven d = λ d k. (
    let c = from_map turned_round entry d k in
    subst IsEven c.2 (even_turned c.0 (measured_is_even c.0 (change_in entry is c.0 c.1)))) in
    subst (λ (cs : List ChangeOf). IsPut before cs after) (all_twice entry (λ c k. (change_in entry is c k).measured.ordered)) (put_back after (inverted entry) before even put)
