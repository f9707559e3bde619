-- A free rename keeps a workspace linked (for the crates above).
use Rattle.std.proofs.Common.{◌≡◌, ◌≢◌, ℕ, ◌<◌, true, List, [], ◌∷◌, ◌++◌, length, get_or, take, Option, Some, None, refl, sym, ◌∙◌, ap, subst, inl, inr, arith, map, if◌then◌else◌, length-append, Contains, AllPairs}
use Rattle.proto_base.proofs.Common.{cases_Bool, cond-true, cond-false, none-some, same_Some, get_or-map, length-map, Contains-get_or, contains_map, from_map}
use Rattle.proto_names_rules.specs.Common.{Symbol, Reference, Workspace, same_name, may_resolve_to, meaning, meaning_at, visible_as, hit, sees, Renaming, turned, ren, IsClear, Collides, IsCaptured, renamed, renamed_symbol, renamed_reference, holds, IsNested, AreApart, IsLinked, IsRenaming, IsFree}
use Rattle.proto_names_rules.proofs.Ren.{last_parts, turn_below-more, turn_below-length}
use Rattle.proto_names_rules.proofs.Rename.{rename_means, captured_means_else, visible_is}
use Rattle.proto_names_rules.proofs.Symbols.{split_last, ren_apart, wanted_clear, shown}

pub has_meaning : {X : Type 0} (o : Option X) → o ≢ None → (x : X) × (o ≡ Some x)
has_meaning None h = absurd (h refl)
has_meaning (Some x) h = (x, refl)

-- what is meant is a symbol that is seen
pub meant : (w : Workspace) (r : Reference) (m : List (List ℕ)) → meaning w r ≡ Some m → (t : Symbol) × Contains w.symbols t × (t.name ≡ m) × (may_resolve_to r.wants t.kind ≡ true) × (sees w r.file t.file ≡ true)
meant w r m h = go (hit w r) refl
  where
    at : (x : List (List ℕ)) → visible_as w r.file (may_resolve_to r.wants) x ≡ Some m → (t : Symbol) × Contains w.symbols t × (t.name ≡ m) × (may_resolve_to r.wants t.kind ≡ true) × (sees w r.file t.file ≡ true)
    at x q =
        let t = visible_is w r.file (may_resolve_to r.wants) x m q in
        let s = shown w r.file (may_resolve_to r.wants) x t.0 in
        (s.0, s.1, s.2 ∙ t.1, s.3, s.4)

    go : (o : Option ℕ) → hit w r ≡ o → (t : Symbol) × Contains w.symbols t × (t.name ≡ m) × (may_resolve_to r.wants t.kind ≡ true) × (sees w r.file t.file ≡ true)
    go None e = elim (cases_Bool r.is_absolute) [
      | inl abs ↦ at r.words (sym (cond-true r.is_absolute (visible_as w r.file (may_resolve_to r.wants) r.words) None abs) ∙ ap (meaning_at w r) (sym e) ∙ h)
      | inr rel ↦ absurd (none-some m (sym (cond-false r.is_absolute (visible_as w r.file (may_resolve_to r.wants) r.words) None rel) ∙ ap (meaning_at w r) (sym e) ∙ h))
    ]
    go (Some k) e = at (take k r.scope ++ r.words) (ap (meaning_at w r) (sym e) ∙ h)

-- no meaning is at or below the entry
pub meaning_clear : (e : Renaming) (w : Workspace) → IsLinked w → IsRenaming e w → (r : Reference) → Contains w.references r → (m : List (List ℕ)) → meaning w r ≡ Some m → IsClear e m
meaning_clear e w ok is r cr m h =
    let t = meant w r m h in
    subst (IsClear e) t.2 (wanted_clear r.wants e w ok is t.0 t.1 t.3 (ok.no_entry r cr t.0 t.1 (h ∙ ap Some (sym t.2))))

-- each reference then means the mapped name
pub each_means : (e : Renaming) (w : Workspace) → IsLinked w → IsRenaming e w → IsFree e w → (r : Reference) → Contains w.references r → (m : List (List ℕ)) → meaning w r ≡ Some m → meaning (renamed e w) (renamed_reference e w r) ≡ Some (ren e m)
each_means e w ok is free r cr m h = rename_means e w r m h (meaning_clear e w ok is r cr m h) (free.no_capture r cr)

-- where one is captured, it doesn't
pub captured_differs : (e : Renaming) (w : Workspace) → IsLinked w → IsRenaming e w → (r : Reference) → Contains w.references r → IsCaptured e w r → (m : List (List ℕ)) → meaning w r ≡ Some m → meaning (renamed e w) (renamed_reference e w r) ≢ Some (ren e m)
captured_differs e w ok is r cr c m h = captured_means_else e w r m h (meaning_clear e w ok is r cr m h) c

nested_renamed : (e : Renaming) (symbols : List Symbol) → IsNested symbols → IsNested (map (renamed_symbol e) symbols)
nested_renamed e symbols nested t' ct' a' p' h la =
    let o = from_map (renamed_symbol e) symbols t' ct' in
    let t = o.0 in
    let name : ren e t.name ≡ a' ++ p' ∷ [] = ap (λ z. z.name) o.2 ∙ h in
    let l = turn_below-length e.parent (turned e) t.name in
    let l2 = length-append a' (p' ∷ []) in
    let s = split_last t.name (omega (arith, l, l2, ap length name)) in
    let parts = last_parts (ren e s.0) a' (if same_name s.0 e.parent then turned e s.1 else s.1) p' (sym (turn_below-more e.parent (turned e) s.0 s.1) ∙ ap (ren e) (sym s.2) ∙ name) in
    let long : 0 < length s.0 = omega (arith, la, ap length parts.0, turn_below-length e.parent (turned e) s.0) in
    let u = nested t o.1 s.0 s.1 s.2 long in
    (renamed_symbol e u.0, contains_map (renamed_symbol e) symbols u.0 u.1, ap (ren e) u.2 ∙ parts.0, u.3 ∙ ap (λ z. z.file) o.2, ap (holds u.0.kind) (sym (ap (λ z. z.kind) o.2)) ∙ u.4)

unique_renamed : (e : Renaming) (w : Workspace) → IsLinked w → IsRenaming e w → (Collides e w → ⊥) → AllPairs AreApart (renamed e w).symbols
unique_renamed e w ok is free i j d below within h =
    let n = length-map w.symbols (renamed_symbol e) in
    let lj : j < length w.symbols = omega (arith, within, n) in
    let li : i < length w.symbols = omega (arith, below, lj) in
    let si = get_or w.symbols i d in
    let sj = get_or w.symbols j d in
    let ei = get_or-map (renamed_symbol e) w.symbols i d d li in
    let ej = get_or-map (renamed_symbol e) w.symbols j d d lj in
    let names : ren e si.name ≡ ren e sj.name = sym (ap (λ z. z.name) ei) ∙ h ∙ ap (λ z. z.name) ej in
    let old = ren_apart e w is free si sj (Contains-get_or w.symbols i d li) (Contains-get_or w.symbols j d lj) names in
    let kinds = ok.unique i j d below lj old in
    (ap (λ z. z.kind) ei ∙ kinds.0, ap (λ z. z.kind) ej ∙ kinds.1)

-- a mapped meaning is the name of a mapped symbol only where that was meant
back : (e : Renaming) (w : Workspace) → IsLinked w → IsRenaming e w → IsFree e w → (r' : Reference) → Contains (renamed e w).references r' → (s' : Symbol) → Contains (renamed e w).symbols s' → meaning (renamed e w) r' ≡ Some s'.name
    → (r : Reference) × (s : Symbol) × Contains w.references r × Contains w.symbols s × (meaning w r ≡ Some s.name) × (r.wants ≡ r'.wants) × (s.kind ≡ s'.kind)
back e w ok is free r' cr' s' cs' h =
    let ro = from_map (renamed_reference e w) w.references r' cr' in
    let so = from_map (renamed_symbol e) w.symbols s' cs' in
    let r = ro.0 in
    let s = so.0 in
    let m = has_meaning (meaning w r) (ok.resolved r ro.1) in
    let t = meant w r m.0 m.1 in
    let new = each_means e w ok is free r ro.1 m.0 m.1 in
    let same : ren e m.0 ≡ ren e s.name = same_Some (ren e m.0) (ren e s.name) (sym new ∙ ap (meaning (renamed e w)) ro.2 ∙ h ∙ ap Some (sym (ap (λ z. z.name) so.2))) in
    let old = ren_apart e w is free.no_collision t.0 s t.1 so.1 (ap (ren e) t.2 ∙ same) in
    (r, s, ro.1, so.1, m.1 ∙ ap Some (sym t.2 ∙ old), ap (λ z. z.wants) ro.2, ap (λ z. z.kind) so.2)

pub renamed_linked : (e : Renaming) (w : Workspace) → IsLinked w → IsRenaming e w → IsFree e w → IsLinked (renamed e w)
renamed_linked e w ok is free = record {
  nested = nested_renamed e w.symbols ok.nested;
  unique = unique_renamed e w ok is free.no_collision;
  resolved = λ r' cr' none.
      (let ro = from_map (renamed_reference e w) w.references r' cr' in
      let m = has_meaning (meaning w ro.0) (ok.resolved ro.0 ro.1) in
      none-some (ren e m.0) (sym none ∙ ap (meaning (renamed e w)) (sym ro.2) ∙ each_means e w ok is free ro.0 ro.1 m.0 m.1));
  no_entry = λ r' cr' s' cs' h k. (let b = back e w ok is free r' cr' s' cs' h in ok.no_entry b.0 b.2 b.1 b.3 b.4 (b.6 ∙ k));
  right_kind = λ r' cr' s' cs' h me k. (let b = back e w ok is free r' cr' s' cs' h in ok.right_kind b.0 b.2 b.1 b.3 b.4 (b.5 ∙ me) (b.6 ∙ k));
}
