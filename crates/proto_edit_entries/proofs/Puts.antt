-- Changes of the files of a workspace: they put one list of files, and the inverted ones lead back. (Public for the crates above.)
use Rattle.std.proofs.Common.{◌≡◌, ◌≢◌, ℕ, ◌+◌, true, false, List, [], ◌∷◌, ◌⊎◌, inl, inr, length, refl, sym, ap, subst, ◌∙◌, arith, sum_by, Contains, bytes_eq}
use Rattle.proto_base.proofs.Common.{cases_Bool, sum_by-cons, contains_head, contains_later, contains_cases, contains_map, from_map, word_from_same, same_from_word}
use Rattle.proto_text.proofs.Common.{Edit, Puts, old_len, new_len, inverse_leads_back, puts_once, puts_length}
use Rattle.proto_files.specs.GivenFiles.{FileOf}
use Rattle.proto_edit_entries.specs.Common.{ChangeOf, turned_round, inverted, IsChange, PutsFile, EachPuts, IsPut, PutsOnce, EntriesLeadBack}

pub same_file : (f g : FileOf) → f.path ≡ g.path → f.bytes ≡ g.bytes → f.profile ≡ g.profile → f ≡ g
same_file f g p b l = λ i. record { path = p i; bytes = b i; profile = l i }

pub contains_none : {X : Type 0} (x : X) → Contains [] x → ⊥
contains_none x c = omega (arith, c.1)

-- a change of a path, or there is none
pub find_change : (cs : List ChangeOf) (path : List ℕ) → ((c : ChangeOf) × Contains cs c × (c.path ≡ path)) ⊎ ((c : ChangeOf) → Contains cs c → c.path ≢ path)
find_change [] path = inr (λ c k. absurd (contains_none c k))
find_change (c ∷ cs) path = elim (cases_Bool (bytes_eq c.path path)) [
  | inl e ↦ inl (c, contains_head c cs, word_from_same c.path path e)
  | inr e ↦ elim (find_change cs path) [
    | inl d ↦ inl (d.0, contains_later c d.0 cs d.1, d.2)
    | inr ne ↦ inr (λ d k. elim (contains_cases c d cs k) [
      | inl same ↦ λ h. differ (sym e ∙ same_from_word c.path path (ap (λ (z : ChangeOf). z.path) same ∙ h))
      | inr k ↦ ne d k
    ])
  ]
]
  where
    differ : false ≡ true → ⊥
    differ z = cc

-- ---- once

file_once : (cs : List ChangeOf) (f g h : FileOf) → PutsFile cs f g → PutsFile cs f h → g ≡ h
file_once cs f g h x y = same_file g h (x.path ∙ sym y.path) bytes (x.profile ∙ sym y.profile)
  where
    bytes : g.bytes ≡ h.bytes
    bytes = elim (find_change cs f.path) [
      | inl c ↦ puts_once 0 f.bytes g.bytes h.bytes c.0.splices (x.changed c.0 c.1 c.2).1 (y.changed c.0 c.1 c.2).1
      | inr ne ↦ x.kept ne ∙ sym (y.kept ne)
    ]

each_once : (cs : List ChangeOf) (w a b : List FileOf) → EachPuts cs w a → EachPuts cs w b → a ≡ b
each_once cs [] [] [] x y = refl
each_once cs [] (g ∷ gs) b x y = absurd x
each_once cs [] [] (h ∷ hs) x y = absurd y
each_once cs (f ∷ fs) [] b x y = absurd x
each_once cs (f ∷ fs) (g ∷ gs) [] x y = absurd y
each_once cs (f ∷ fs) (g ∷ gs) (h ∷ hs) x y = ap (λ (z : FileOf). z ∷ gs) (file_once cs f g h x.0 y.0) ∙ ap (λ (z : List FileOf). h ∷ z) (each_once cs fs gs hs x.1 y.1)

pub puts_are_once : PutsOnce
puts_are_once w a b cs p q = each_once cs w a b p.each q.each

-- ---- back

-- the lengths are those that the splices make
abbrev pub IsEven : ChangeOf → Type 0
IsEven c = c.after + old_len c.splices ≡ c.before + new_len c.splices

file_back : (cs : List ChangeOf) (f g : FileOf) → ((c : ChangeOf) → Contains cs c → IsEven c) → PutsFile cs f g → PutsFile (inverted cs) g f
file_back cs f g even x = record {
  path = sym x.path;
  profile = sym x.profile;
  changed = λ d k p. changed d k p;
  kept = λ ne. sym (x.kept (λ c k p. ne (turned_round c) (contains_map turned_round cs c k) (p ∙ sym x.path)));
}
  where
    back : (c : ChangeOf) → Contains cs c → c.path ≡ g.path → (length g.bytes ≡ c.after) × Puts 0 g.bytes (turned_round c).splices f.bytes
    back c k p =
        let put = x.changed c k (p ∙ x.path) in
        let size = puts_length 0 f.bytes g.bytes c.splices put.1 in
        (omega (arith, size, put.0, even c k), inverse_leads_back f.bytes g.bytes c.splices put.1)

    changed : (d : ChangeOf) → Contains (inverted cs) d → d.path ≡ g.path → (length g.bytes ≡ d.before) × Puts 0 g.bytes d.splices f.bytes
    changed d k p =
        let c = from_map turned_round cs d k in
        subst (λ (z : ChangeOf). (length g.bytes ≡ z.before) × Puts 0 g.bytes z.splices f.bytes) c.2 (back c.0 c.1 (ap (λ (z : ChangeOf). z.path) c.2 ∙ p))

each_back : (cs : List ChangeOf) (w after : List FileOf) → ((c : ChangeOf) → Contains cs c → IsEven c) → EachPuts cs w after → EachPuts (inverted cs) after w
each_back cs [] [] even x = tt
each_back cs [] (g ∷ gs) even x = absurd x
each_back cs (f ∷ fs) [] even x = absurd x
each_back cs (f ∷ fs) (g ∷ gs) even x = (file_back cs f g even x.0, each_back cs fs gs even x.1)

-- each file is there afterwards too
each_there : (cs : List ChangeOf) (w after : List FileOf) (f : FileOf) → EachPuts cs w after → Contains w f → (g : FileOf) × Contains after g × (g.path ≡ f.path)
each_there cs [] after f x k = absurd (contains_none f k)
each_there cs (h ∷ fs) [] f x k = absurd x
each_there cs (h ∷ fs) (g ∷ gs) f x k = elim (contains_cases h f fs k) [
  | inl same ↦ (g, contains_head g gs, x.0.path ∙ ap (λ (z : FileOf). z.path) same)
  | inr k ↦ let r = each_there cs fs gs f x.1 k in (r.0, contains_later g r.0 gs r.1, r.2)
]

pub put_back : (w : List FileOf) (cs : List ChangeOf) (after : List FileOf) → ((c : ChangeOf) → Contains cs c → IsEven c) → IsPut w cs after → IsPut after (inverted cs) w
put_back w cs after even p = record {
  each = each_back cs w after even p.each;
  there = λ d k. (
      let c = from_map turned_round cs d k in
      let f = p.there c.0 c.1 in
      let g = each_there cs w after f.0 p.each f.1 in
      (g.0, g.1, g.2 ∙ f.2 ∙ ap (λ (z : ChangeOf). z.path) c.2));
}

-- ---- back from an entry

sum_old : (es : List Edit) → old_len es ≡ sum_by (λ e. length e.old) es
sum_old [] = refl
sum_old (e ∷ es) = ap (λ (n : ℕ). length e.old + n) (sum_old es) ∙ sym (sum_by-cons (λ (x : Edit). length x.old) e es)

sum_new : (es : List Edit) → new_len es ≡ sum_by (λ e. length e.new) es
sum_new [] = refl
sum_new (e ∷ es) = ap (λ (n : ℕ). length e.new + n) (sum_new es) ∙ sym (sum_by-cons (λ (x : Edit). length x.new) e es)

pub measured_is_even : (c : ChangeOf) → IsChange c → IsEven c
measured_is_even c h = ap (λ (n : ℕ). c.after + n) (sum_old c.splices) ∙ h.measured.lengths.lengths ∙ ap (λ (n : ℕ). c.before + n) (sym (sum_new c.splices))

pub entries_lead_back : EntriesLeadBack
entries_lead_back w after cs is put = put_back w cs after (λ c k. measured_is_even c (subst IsChange k.2 (is.each k.0 c k.1))) put
