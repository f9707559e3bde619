-- Files that are put back: what each of them is then, and that it is one.
use Rattle.std.proofs.Common.{arith, ◌≡◌, inl, inr, ℕ, List, length, Some, sym, ap, ◌∙◌, subst, Contains, nat_cmp}
use Rattle.proto_base.proofs.Common.{IsStrictlySortedBy, slice_cmp}
use Rattle.proto_text.proofs.Common.{Edit, Puts, inverse_from, inverse_leads_back, puts_length, puts_once}
use Rattle.proto_files.specs.GivenFiles.{FileOf, paths_of}
use Rattle.proto_edit_entries.proofs.Common.{ChangeOf, IsChange, IsEntry, turned_round, IsEven, find_change, measured_is_even}
use Rattle.proto_store.proofs.Common.{AreInPathOrder, bytes_at, same_files}
use Rattle.proto_journal_records.specs.Common.{ArePartlyBack, ArePutBack, IsPutBack, IsRestored, IsAsBefore, IsEitherWay}
use Rattle.proto_journal_records.proofs.Apart.{no_text_is_both}
use Rattle.proto_journal_records.proofs.TornStores.{change_in, even_turned, twice_from}

-- ---- texts

pub restored_once : (c : ChangeOf) (text a b : List ℕ) → IsChange c → IsRestored c text a → IsRestored c text b → a ≡ b
restored_once c text a b is (inl x) (inl y) = x.1 ∙ sym y.1
restored_once c text a b is (inl x) (inr y) = absurd (no_text_is_both c text is x.0 y.0)
restored_once c text a b is (inr x) (inl y) = absurd (no_text_is_both c text is y.0 x.0)
restored_once c text a b is (inr x) (inr y) = puts_once 0 text a b (turned_round c).splices x.1 y.1

pub restored_is_before : (c : ChangeOf) (text new : List ℕ) → IsChange c → IsRestored c text new → IsAsBefore c new
restored_is_before c text new is (inl x) = subst (λ (t : List ℕ). IsAsBefore c t) (sym x.1) x.0
restored_is_before c text new is (inr x) =
    let even : IsEven (turned_round c) = even_turned c (measured_is_even c is) in
    let size = puts_length 0 text new (turned_round c).splices x.1 in
    let back : Puts 0 new (inverse_from 0 0 (turned_round c).splices) text = inverse_leads_back text new (turned_round c).splices x.1 in
    let twice : inverse_from 0 0 (turned_round c).splices ≡ c.splices = twice_from 0 0 c.splices is.measured.ordered in
    record {
      len = omega (arith, size, even, x.0.len);
      new = text;
      puts = subst (λ (es : List Edit). Puts 0 new es text) twice back;
    }

-- the text that a change makes is put back
pub put_is_restored : (c : ChangeOf) (old new : List ℕ) → IsChange c → length old ≡ c.before → Puts 0 old c.splices new → IsRestored c new old
put_is_restored c old new is len puts =
    let even : IsEven c = measured_is_even c is in
    let size = puts_length 0 old new c.splices puts in
    let back : Puts 0 new (turned_round c).splices old = inverse_leads_back old new c.splices puts in
    inr (record { len = omega (arith, size, even, len); new = old; puts = back }, back)

restored_twice : (c : ChangeOf) (text mid new : List ℕ) → IsChange c → IsRestored c text mid → IsRestored c mid new → IsRestored c text new
restored_twice c text mid new is x (inl y) = subst (λ (t : List ℕ). IsRestored c text t) (sym y.1) x
restored_twice c text mid new is x (inr y) = absurd (no_text_is_both c mid is (restored_is_before c text mid is x) y.0)

-- ---- the file of a change

pub of_some : (a b : List ℕ) → Some a ≡ Some b → a ≡ b
of_some a b e = cc

put_back_either : (c : ChangeOf) (old new : List FileOf) → IsChange c → IsPutBack c old new → IsEitherWay new c
put_back_either c old new is p = record { text = p.back; there = p.is; either = inl (restored_is_before c p.text p.back is p.restored) }

pub put_back_was_either : (c : ChangeOf) (old new : List FileOf) → IsPutBack c old new → IsEitherWay old c
put_back_was_either c old new p = record { text = p.text; there = p.was; either = elim p.restored [ inl x ↦ inl x.0 | inr x ↦ inr x.0 ] }

same_back : (c : ChangeOf) (old a b : List FileOf) → IsChange c → IsPutBack c old a → IsPutBack c old b → bytes_at c.path a ≡ bytes_at c.path b
same_back c old a b is x y =
    let text : x.text ≡ y.text = of_some x.text y.text (sym x.was ∙ y.was) in
    let back : x.back ≡ y.back = restored_once c y.text x.back y.back is (subst (λ (t : List ℕ). IsRestored c t x.back) text x.restored) y.restored in
    x.is ∙ ap (λ (t : List ℕ). Some t) back ∙ sym y.is

twice_back : (c : ChangeOf) (old mid new : List FileOf) → IsChange c → IsPutBack c old mid → IsPutBack c mid new → IsPutBack c old new
twice_back c old mid new is x y =
    let text : x.back ≡ y.text = of_some x.back y.text (sym x.is ∙ y.was) in
    record {
      text = x.text;
      back = y.back;
      was = x.was;
      is = y.is;
      restored = restored_twice c x.text y.text y.back is (subst (λ (t : List ℕ). IsRestored c x.text t) text x.restored) y.restored;
    }

late_back : (c : ChangeOf) (old mid new : List FileOf) → bytes_at c.path mid ≡ bytes_at c.path old → IsPutBack c mid new → IsPutBack c old new
late_back c old mid new same y = record { text = y.text; back = y.back; was = sym same ∙ y.was; is = y.is; restored = y.restored }

-- ---- all files

pub same_order : (old new : List FileOf) → paths_of new ≡ paths_of old → AreInPathOrder old → AreInPathOrder new
same_order old new e order = subst (λ (l : List (List ℕ)). IsStrictlySortedBy (slice_cmp nat_cmp) l) (sym e) order

pub put_back_once : (entry : List ChangeOf) (old a b : List FileOf) → IsEntry entry → AreInPathOrder old → ArePutBack entry old a → ArePutBack entry old b → a ≡ b
put_back_once entry old a b is order x y = same_files a b (same_order old a x.paths order) (x.paths ∙ sym y.paths) (x.languages ∙ sym y.languages) at
  where
    at : (path : List ℕ) → bytes_at path a ≡ bytes_at path b
    at path = elim (find_change entry path) [
      | inl c ↦ subst (λ (p : List ℕ). bytes_at p a ≡ bytes_at p b) c.2 (same_back c.0 old a b (change_in entry is c.0 c.1) (x.each c.0 c.1) (y.each c.0 c.1))
      | inr none ↦ x.others path none ∙ sym (y.others path none)
    ]

-- what is put back behind files that are partly back is put back
pub back_behind : (entry : List ChangeOf) (old mid new : List FileOf) → IsEntry entry → ArePartlyBack entry old mid → ArePutBack entry mid new → ArePutBack entry old new
back_behind entry old mid new is x y = record {
  paths = y.paths ∙ x.paths;
  languages = y.languages ∙ x.languages;
  each = λ c k. elim (x.each c k) [
    | inl same ↦ late_back c old mid new same (y.each c k)
    | inr back ↦ twice_back c old mid new (change_in entry is c k) back (y.each c k)
  ];
  others = λ path none. y.others path none ∙ x.others path none;
}

-- files that are partly back are as before or as after, as they were
pub partly_either : (entry : List ChangeOf) (old mid : List FileOf) → IsEntry entry → ArePartlyBack entry old mid → (c : ChangeOf) → Contains entry c → IsEitherWay old c → IsEitherWay mid c
partly_either entry old mid is x c k either = elim (x.each c k) [
  | inl same ↦ record { text = either.text; there = same ∙ either.there; either = either.either }
  | inr back ↦ put_back_either c old mid (change_in entry is c k) back
]
