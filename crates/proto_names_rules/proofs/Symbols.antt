-- What nesting and unique names give (for the crates above).
use Rattle.std.proofs.Common.{◌≡◌, ◌≢◌, ℕ, zero, suc, ◌<◌, Bool, true, false, ◌&&◌, List, [], ◌∷◌, ◌++◌, length, get_or, Option, Some, None, refl, sym, ◌∙◌, ap, subst, inl, inr, ◌⊎◌, arith, append_assoc, length-append, Contains, AllPairs, bytes_eq, true≢false, append-nil}
use Rattle.proto_base.proofs.Common.{cases_Bool, cases_order, cond-true, cond-false, false_from_ne_true, both_ways, and_parts, or_cases, or_parts, same_Some, get_or_default, any_to, word_from_same}
use Rattle.proto_names_rules.specs.Common.{Kind, Package, Message, Entry, Enum, Service, Field, EntryField, Oneof, Value, Method, Extension, Symbol, Workspace, Wants, same_name, is_type, is_extension, is_outer, may_resolve_to, shows, sees, Renaming, turned, turned_by, moves, moves_by, ren, is_below, in_domain, is_entry, is_entry_by, IsClear, Collides, is_entry_field, is_leaf, holds, IsNested, AreApart, IsLinked, EntryFits, IsRenaming}
use Rattle.proto_names_rules.specs.declared.wants.Wants.TheVariants as wants
use Rattle.proto_names_rules.proofs.Basics.{name_from_same}
use Rattle.proto_names_rules.proofs.Ren.{turn_below_outside, turn_below_apart}

-- two symbols with one name are one, or packages
pub one_symbol : (symbols : List Symbol) → AllPairs AreApart symbols → (s t : Symbol) → Contains symbols s → Contains symbols t → s.name ≡ t.name → (s ≡ t) ⊎ ((s.kind ≡ Package) × (t.kind ≡ Package))
one_symbol symbols all s t cs ct h = elim (cases_order cs.0 ct.0) [
  | inl same ↦ inl (sym cs.2 ∙ get_or_default symbols cs.0 s t cs.1 ∙ ap (λ i. get_or symbols i t) same ∙ ct.2)
  | inr (inl below) ↦
      let es : get_or symbols cs.0 s ≡ s = cs.2 in
      let et : get_or symbols ct.0 s ≡ t = get_or_default symbols ct.0 s t ct.1 ∙ ct.2 in
      let r = all cs.0 ct.0 s below ct.1 (ap (λ z. z.name) es ∙ h ∙ sym (ap (λ z. z.name) et)) in
      inr (sym (ap (λ z. z.kind) es) ∙ r.0, sym (ap (λ z. z.kind) et) ∙ r.1)
  | inr (inr above) ↦
      let es : get_or symbols cs.0 s ≡ s = cs.2 in
      let et : get_or symbols ct.0 s ≡ t = get_or_default symbols ct.0 s t ct.1 ∙ ct.2 in
      let r = all ct.0 cs.0 s above cs.1 (ap (λ z. z.name) et ∙ sym h ∙ sym (ap (λ z. z.name) es)) in
      inr (sym (ap (λ z. z.kind) es) ∙ r.1, sym (ap (λ z. z.kind) et) ∙ r.0)
]

-- a list that isn't empty ends with a last one
pub split_last : (b : List (List ℕ)) → 0 < length b → (c : List (List ℕ)) × (p : List ℕ) × (b ≡ c ++ p ∷ [])
split_last [] h = absurd (omega (arith, h))
split_last (p ∷ []) h = ([], p, refl)
split_last (p ∷ q ∷ b) h = let r = split_last (q ∷ b) (omega arith) in (p ∷ r.0, r.1, ap (λ l. p ∷ l) r.2)

holds-package : (k : Kind) → holds k Package ≡ true → k ≡ Package
holds-package Package h = refl
holds-package Message h = absurd (true≢false (sym h))
holds-package Entry h = absurd (true≢false (sym h))
holds-package Enum h = absurd (true≢false (sym h))
holds-package Service h = absurd (true≢false (sym h))
holds-package Field h = absurd (true≢false (sym h))
holds-package EntryField h = absurd (true≢false (sym h))
holds-package Oneof h = absurd (true≢false (sym h))
holds-package Value h = absurd (true≢false (sym h))
holds-package Method h = absurd (true≢false (sym h))
holds-package Extension h = absurd (true≢false (sym h))

holds-outer : (k j : Kind) → holds k j ≡ true → is_outer k ≡ true
holds-outer Package j h = refl
holds-outer Message j h = refl
holds-outer Entry j h = refl
holds-outer Enum j h = absurd (true≢false (sym h))
holds-outer Service j h = refl
holds-outer Field j h = absurd (true≢false (sym h))
holds-outer EntryField j h = absurd (true≢false (sym h))
holds-outer Oneof j h = absurd (true≢false (sym h))
holds-outer Value j h = absurd (true≢false (sym h))
holds-outer Method j h = absurd (true≢false (sym h))
holds-outer Extension j h = absurd (true≢false (sym h))

-- the symbol at a front of a symbol's name
pub record HasFront (symbols : List Symbol) (a : List (List ℕ)) (t : Symbol) : Type 0 where
  pub it : Symbol
  pub within : Contains symbols it
  pub name : it.name ≡ a
  pub file : it.file ≡ t.file
  pub outer : is_outer it.kind ≡ true
  pub of_package : t.kind ≡ Package → it.kind ≡ Package
  pub entry : it.kind ≡ Entry → is_entry_field t.kind ≡ true
  pub not_leaf : is_leaf it.kind ≡ false

pub outer_not_leaf : (k : Kind) → is_outer k ≡ true → is_leaf k ≡ false
outer_not_leaf Package h = refl
outer_not_leaf Message h = refl
outer_not_leaf Entry h = refl
outer_not_leaf Enum h = refl
outer_not_leaf Service h = refl
outer_not_leaf Field h = absurd (true≢false (sym h))
outer_not_leaf EntryField h = absurd (true≢false (sym h))
outer_not_leaf Oneof h = absurd (true≢false (sym h))
outer_not_leaf Value h = absurd (true≢false (sym h))
outer_not_leaf Method h = absurd (true≢false (sym h))
outer_not_leaf Extension h = absurd (true≢false (sym h))

pub type_not_leaf : (k : Kind) → is_type k ≡ true → is_leaf k ≡ false
type_not_leaf Package h = refl
type_not_leaf Message h = refl
type_not_leaf Entry h = refl
type_not_leaf Enum h = refl
type_not_leaf Service h = refl
type_not_leaf Field h = absurd (true≢false (sym h))
type_not_leaf EntryField h = absurd (true≢false (sym h))
type_not_leaf Oneof h = absurd (true≢false (sym h))
type_not_leaf Value h = absurd (true≢false (sym h))
type_not_leaf Method h = absurd (true≢false (sym h))
type_not_leaf Extension h = absurd (true≢false (sym h))

outer_no_entry_field : (k : Kind) → is_outer k ≡ true → is_entry_field k ≡ false
outer_no_entry_field Package h = refl
outer_no_entry_field Message h = refl
outer_no_entry_field Entry h = refl
outer_no_entry_field Enum h = refl
outer_no_entry_field Service h = refl
outer_no_entry_field Field h = refl
outer_no_entry_field EntryField h = absurd (true≢false (sym h))
outer_no_entry_field Oneof h = refl
outer_no_entry_field Value h = refl
outer_no_entry_field Method h = refl
outer_no_entry_field Extension h = refl

-- what may be meant is no field of an entry,
pub wanted_no_entry_field : (what : Wants) (k : Kind) → may_resolve_to what k ≡ true → is_entry_field k ≡ true → ⊥
wanted_no_entry_field wants.Type EntryField h e = true≢false (sym h)
wanted_no_entry_field wants.Message EntryField h e = true≢false (sym h)
wanted_no_entry_field wants.Extension EntryField h e = true≢false (sym h)
wanted_no_entry_field what Package h e = true≢false (sym e)
wanted_no_entry_field what Message h e = true≢false (sym e)
wanted_no_entry_field what Entry h e = true≢false (sym e)
wanted_no_entry_field what Enum h e = true≢false (sym e)
wanted_no_entry_field what Service h e = true≢false (sym e)
wanted_no_entry_field what Field h e = true≢false (sym e)
wanted_no_entry_field what Oneof h e = true≢false (sym e)
wanted_no_entry_field what Value h e = true≢false (sym e)
wanted_no_entry_field what Method h e = true≢false (sym e)
wanted_no_entry_field what Extension h e = true≢false (sym e)

-- no package,
pub wanted_no_package : (what : Wants) (k : Kind) → may_resolve_to what k ≡ true → k ≡ Package → ⊥
wanted_no_package wants.Type k h e = true≢false (sym h ∙ ap is_type e)
wanted_no_package wants.Message k h e = true≢false (sym h ∙ ap is_type e)
wanted_no_package wants.Extension k h e = true≢false (sym h ∙ ap is_extension e)

-- and no field
pub wanted_no_field : (what : Wants) (k : Kind) → may_resolve_to what k ≡ true → k ≡ Field → ⊥
wanted_no_field wants.Type k h e = true≢false (sym h ∙ ap is_type e)
wanted_no_field wants.Message k h e = true≢false (sym h ∙ ap is_type e)
wanted_no_field wants.Extension k h e = true≢false (sym h ∙ ap is_extension e)

empty_from : (b : List (List ℕ)) → length b ≡ 0 → b ≡ []
empty_from [] h = refl
empty_from (p ∷ b) h = absurd (omega (arith, h))

pub fronts : (symbols : List Symbol) → IsNested symbols → (n : ℕ) (b : List (List ℕ)) → length b ≡ suc n → (a : List (List ℕ)) (t : Symbol) → Contains symbols t → t.name ≡ a ++ b → 0 < length a → HasFront symbols a t
fronts symbols nested zero b l a t c h la =
    let s = split_last b (omega (arith, l)) in
    let name = h ∙ ap (λ x. a ++ x) s.2 ∙ sym (append_assoc a s.0 (s.1 ∷ [])) in
    let long : 0 < length (a ++ s.0) = omega (arith, length-append a s.0, la) in
    let r = nested t c (a ++ s.0) s.1 name long in
    let e : s.0 ≡ [] = empty_from s.0 (omega (arith, l, ap length s.2, length-append s.0 (s.1 ∷ []))) in
    record {
      it = r.0;
      within = r.1;
      name = r.2 ∙ ap (λ x. a ++ x) e ∙ append-nil a;
      file = r.3;
      outer = holds-outer r.0.kind t.kind r.4;
      of_package = λ k. holds-package r.0.kind (subst (λ x. holds r.0.kind x ≡ true) k r.4);
      entry = λ k. subst (λ x. holds x t.kind ≡ true) k r.4;
      not_leaf = outer_not_leaf r.0.kind (holds-outer r.0.kind t.kind r.4);
    }
fronts symbols nested (suc n) b l a t c h la =
    let s = split_last b (omega (arith, l)) in
    let name = h ∙ ap (λ x. a ++ x) s.2 ∙ sym (append_assoc a s.0 (s.1 ∷ [])) in
    let long : 0 < length (a ++ s.0) = omega (arith, length-append a s.0, la) in
    let r = nested t c (a ++ s.0) s.1 name long in
    let n' : length s.0 ≡ suc n = omega (arith, l, ap length s.2, length-append s.0 (s.1 ∷ [])) in
    let f = fronts symbols nested n s.0 n' a r.0 r.1 r.2 la in
    let outer = holds-outer r.0.kind t.kind r.4 in
    record {
      it = f.it;
      within = f.within;
      name = f.name;
      file = f.file ∙ r.3;
      outer = f.outer;
      of_package = λ k. f.of_package (holds-package r.0.kind (subst (λ x. holds r.0.kind x ≡ true) k r.4));
      entry = λ k. absurd (both_ways (is_entry_field r.0.kind) (outer_no_entry_field r.0.kind outer) (f.entry k));
      not_leaf = f.not_leaf;
    }

-- the same where the rest may be empty
pub front_or_same : (symbols : List Symbol) → IsNested symbols → (a b : List (List ℕ)) (t : Symbol) → Contains symbols t → t.name ≡ a ++ b → 0 < length a → (b ≡ []) ⊎ HasFront symbols a t
front_or_same symbols nested a [] t c h la = inl refl
front_or_same symbols nested a (p ∷ b) t c h la = inr (fronts symbols nested (length b) (p ∷ b) refl a t c h la)

pub below_split : (ps : List (List ℕ)) (t : List ℕ → Bool) (x : List (List ℕ)) → is_below ps t x ≡ true → (v : List ℕ) × (rest : List (List ℕ)) × (x ≡ ps ++ v ∷ rest) × (t v ≡ true)
below_split [] t [] h = absurd (true≢false (sym h))
below_split [] t (x ∷ xs) h = (x, xs, refl, h)
below_split (p ∷ ps) t [] h = absurd (true≢false (sym h))
below_split (p ∷ ps) t (x ∷ xs) h =
    let q = and_parts (bytes_eq x p) (is_below ps t xs) h in
    let r = below_split ps t xs q.1 in
    (r.0, r.1, ap (λ l. x ∷ l) r.2 ∙ ap (λ z. z ∷ (ps ++ r.0 ∷ r.1)) (word_from_same x p q.0), r.3)

-- the words that move, and what they become
pub moved_by : (e : Renaming) (o : Option (List ℕ × List ℕ)) (v : List ℕ) → e.entry ≡ o → moves_by o v ≡ true → bytes_eq v e.old ≡ false → (p : List ℕ × List ℕ) × (e.entry ≡ Some p) × (v ≡ p.0) × (turned e v ≡ p.1)
moved_by e None v eo h other = absurd (true≢false (sym h))
moved_by e (Some p) v eo h other = (
  p,
  eo,
  word_from_same v p.0 h,
  cond-false (bytes_eq v e.old) e.new (turned_by e.entry v) other ∙ ap (λ o. turned_by o v) eo ∙ cond-true (bytes_eq v p.0) p.1 v h,
)

pub moves_to : (e : Renaming) (v : List ℕ) → moves e v ≡ true → ((v ≡ e.old) × (turned e v ≡ e.new)) ⊎ ((p : List ℕ × List ℕ) × (e.entry ≡ Some p) × (v ≡ p.0) × (turned e v ≡ p.1))
moves_to e v h = elim (cases_Bool (bytes_eq v e.old)) [
  | inl same ↦ inl (word_from_same v e.old same, cond-true (bytes_eq v e.old) e.new (turned_by e.entry v) same)
  | inr other ↦ inr (moved_by e e.entry v refl (elim (or_cases (bytes_eq v e.old) (moves_by e.entry v) h) [ inl s ↦ absurd (both_ways (bytes_eq v e.old) other s) | inr m ↦ m ]) other)
]

pub stays : (e : Renaming) (v : List ℕ) → moves e v ≡ false → turned e v ≡ v
stays e v h =
    let q = or_parts (bytes_eq v e.old) (moves_by e.entry v) h in
    cond-false (bytes_eq v e.old) e.new (turned_by e.entry v) q.0 ∙ go e.entry q.1
  where
    go : (o : Option (List ℕ × List ℕ)) → moves_by o v ≡ false → turned_by o v ≡ v
    go None h = refl
    go (Some p) h = cond-false (bytes_eq v p.0) p.1 v h

entry_at : (w : Workspace) (e : Renaming) (p : List ℕ × List ℕ) → IsRenaming e w → e.entry ≡ Some p → EntryFits w e (Some p)
entry_at w e p ok h = subst (EntryFits w e) h ok.entry_is

pub moved_apart : (e : Renaming) (w : Workspace) → IsRenaming e w → (u v : List ℕ) → moves e u ≡ true → moves e v ≡ true → turned e u ≡ turned e v → u ≡ v
moved_apart e w ok u v hu hv h = elim (moves_to e u hu) [
  | inl a ↦ elim (moves_to e v hv) [
    | inl b ↦ a.0 ∙ sym b.0
    | inr b ↦ absurd ((entry_at w e b.0 ok b.1).1 (sym b.3 ∙ sym h ∙ a.1))
  ]
  | inr a ↦ elim (moves_to e v hv) [
    | inl b ↦ absurd ((entry_at w e a.0 ok a.1).1 (sym a.3 ∙ h ∙ b.1))
    | inr b ↦ a.2 ∙ ap (λ (p : List ℕ × List ℕ). p.0) (same_Some a.0 b.0 (sym a.1 ∙ b.1)) ∙ sym b.2
  ]
]

-- Without a collision no two names become one.
pub ren_apart : (e : Renaming) (w : Workspace) → IsRenaming e w → (Collides e w → ⊥) → (s t : Symbol) → Contains w.symbols s → Contains w.symbols t → ren e s.name ≡ ren e t.name → s.name ≡ t.name
ren_apart e w ok free s t cs ct h = elim (cases_Bool (in_domain e s.name)) [
  | inl s_in ↦ elim (cases_Bool (in_domain e t.name)) [
    | inl t_in ↦ turn_below_apart e.parent (turned e) (moves e) (moved_apart e w ok) s.name t.name s_in t_in h
    | inr t_out ↦ absurd (free (s, t, cs, ct, s_in, t_out, h ∙ outside t t_out))
  ]
  | inr s_out ↦ elim (cases_Bool (in_domain e t.name)) [
    | inl t_in ↦ absurd (free (t, s, ct, cs, t_in, s_out, sym h ∙ outside s s_out))
    | inr t_out ↦ sym (outside s s_out) ∙ h ∙ outside t t_out
  ]
]
  where
    outside : (z : Symbol) → in_domain e z.name ≡ false → ren e z.name ≡ z.name
    outside z out = turn_below_outside e.parent (turned e) (moves e) (stays e) z.name out

-- what is at or below a symbol that is no package is no package
not_above_package : (w : Workspace) → IsLinked w → (s t : Symbol) → Contains w.symbols s → Contains w.symbols t → s.kind ≢ Package → (a rest : List (List ℕ)) → s.name ≡ a → 0 < length a → t.name ≡ a ++ rest → t.kind ≢ Package
not_above_package w ok s t cs ct ns a rest na la nt pk = elim (front_or_same w.symbols ok.nested a rest t ct nt la) [
  | inl e ↦ elim (one_symbol w.symbols ok.unique s t cs ct (na ∙ sym (nt ∙ ap (λ l. a ++ l) e ∙ append-nil a))) [
    | inl same ↦ ns (ap (λ z. z.kind) same ∙ pk)
    | inr both ↦ ns both.0
  ]
  | inr f ↦ elim (one_symbol w.symbols ok.unique s f.it cs f.within (na ∙ sym f.name)) [
    | inl same ↦ ns (ap (λ z. z.kind) same ∙ f.of_package pk)
    | inr both ↦ ns both.0
  ]
]

-- no package is in the domain
pub package_out : (e : Renaming) (w : Workspace) → IsLinked w → IsRenaming e w → (t : Symbol) → Contains w.symbols t → t.kind ≡ Package → in_domain e t.name ≡ false
package_out e w ok is t ct pk = false_from_ne_true (in_domain e t.name) (λ h.
    let b = below_split e.parent (moves e) t.name h in
    let v = b.0 in
    let long : (x : List ℕ) → 0 < length (e.parent ++ x ∷ []) = λ x. omega (arith, length-append e.parent (x ∷ [])) in
    let name : t.name ≡ (e.parent ++ v ∷ []) ++ b.1 = b.2 ∙ sym (append_assoc e.parent (v ∷ []) b.1) in
    elim (moves_to e v b.3) [
      | inl a ↦
          let s = is.target_is in
          not_above_package w ok s.0 t s.1 ct s.3 (e.parent ++ v ∷ []) b.1 (s.2 ∙ ap (λ x. e.parent ++ x ∷ []) (sym a.0)) (long v) name pk
      | inr a ↦
          let s = (entry_at w e a.0 is a.1).2 in
          not_above_package w ok s.0 t s.1 ct (λ k. kinds_differ (sym s.3 ∙ k)) (e.parent ++ v ∷ []) b.1 (s.2 ∙ ap (λ x. e.parent ++ x ∷ []) (sym a.2)) (long v) name pk
    ])
  where
    kinds_differ : Entry ≡ Package → ⊥
    kinds_differ h = cc

-- packages keep their names
pub package_stays : (e : Renaming) (w : Workspace) → IsLinked w → IsRenaming e w → (t : Symbol) → Contains w.symbols t → t.kind ≡ Package → ren e t.name ≡ t.name
package_stays e w ok is t ct pk = turn_below_outside e.parent (turned e) (moves e) (stays e) t.name (package_out e w ok is t ct pk)

-- what may be meant and isn't an entry is not at or below one
pub wanted_clear : (what : Wants) (e : Renaming) (w : Workspace) → IsLinked w → IsRenaming e w → (t : Symbol) → Contains w.symbols t → may_resolve_to what t.kind ≡ true → t.kind ≢ Entry → IsClear e t.name
wanted_clear what e w ok is t ct ty ne front back h = false_from_ne_true (is_entry e front) (λ q. go e.entry refl q)
  where
    entry_not : Entry ≡ Package → ⊥
    entry_not h = cc

    go : (o : Option (List ℕ × List ℕ)) → e.entry ≡ o → is_entry_by e.parent o front ≡ true → ⊥
    go None eo q = true≢false (sym q)
    go (Some p) eo q =
        let s = (entry_at w e p is eo).2 in
        let f = name_from_same front (e.parent ++ p.0 ∷ []) q in
        let long : 0 < length front = omega (arith, length-append e.parent (p.0 ∷ []), ap length f) in
        elim (front_or_same w.symbols ok.nested front back t ct (sym h) long) [
          | inl none ↦ elim (one_symbol w.symbols ok.unique s.0 t s.1 ct (s.2 ∙ sym f ∙ sym (append-nil front) ∙ ap (λ l. front ++ l) (sym none) ∙ h)) [
            | inl same ↦ ne (sym (ap (λ z. z.kind) same) ∙ s.3)
            | inr both ↦ entry_not (sym s.3 ∙ both.0)
          ]
          | inr u ↦ elim (one_symbol w.symbols ok.unique s.0 u.it s.1 u.within (s.2 ∙ sym f ∙ sym u.name)) [
            | inl same ↦ wanted_no_entry_field what t.kind ty (u.entry (sym (ap (λ z. z.kind) same) ∙ s.3))
            | inr both ↦ entry_not (sym s.3 ∙ both.0)
          ]
        ]

-- a type that is shown is a symbol
pub shown : (w : Workspace) (f : ℕ) (good : Kind → Bool) (x : List (List ℕ)) → shows w f good x ≡ true → (s : Symbol) × Contains w.symbols s × (s.name ≡ x) × (good s.kind ≡ true) × (sees w f s.file ≡ true)
shown w f good x h =
    let a = any_to (λ s. same_name s.name x && (good s.kind && sees w f s.file)) w.symbols h in
    let p = and_parts (same_name a.0.name x) (good a.0.kind && sees w f a.0.file) a.2 in
    let q = and_parts (good a.0.kind) (sees w f a.0.file) p.1 in
    (a.0, a.1, name_from_same a.0.name x p.0, q.0, q.1)
