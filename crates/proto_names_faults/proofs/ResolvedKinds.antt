-- The kind of what a reference resolves to, by the row of its name.
use Rattle.std.proofs.Common.{◌≡◌, ℕ, ◌<◌, ◌≤◌, Bool, List, [], ◌∷◌, ◌++◌, length, get_or, take, Option, Some, None, option_and_then, option_map, refl, sym, ◌∙◌, ap, subst, inl, inr, arith, Contains}
use Rattle.proto_base.proofs.Common.{cases_Bool, cases_lt, cond-true, cond-false, none-some, same_Some, slice_get_cases, get_or_past, length-map}
use Rattle.proto_names_rules.proofs.Common.{ArePlain, Reference, Symbol, Workspace, front, hit, joined, may_resolve_to, meaning, meaning_at, name_some, names_apart, shown, visible_as, visible_is}
use Rattle.proto_names_outline.proofs.Common.{needs}
use Rattle.proto_names_outline.specs.declared.listing.Above.{Above}
use Rattle.proto_names_outline.specs.declared.listing.Above.TheVariants.{Below, Outermost}
use Rattle.proto_names_outline.specs.declared.listing.Use.{Use}
use Rattle.proto_names_table.specs.Filling.{number_above}
use Rattle.proto_names_table.specs.declared.table.Row.{Row}
use Rattle.proto_names_table.specs.declared.table.Table.{Table}
use Rattle.proto_names_table.proofs.Common.{IsAsked, IsIndexOf, IsTable, aboves_of, look, names_of, pick}
use Rattle.proto_names.specs.Referring.{IsReadBy, reference_by, scope_above}
use Rattle.proto_names_faults.specs.Common.{IsKindOf, kind_in}

-- the words of a reference by its first and the others
pub same_words : {ws rest rest' : List (List ℕ)} {first first' : List ℕ} → ws ≡ first ∷ rest → first ≡ first' → rest ≡ rest' → ws ≡ first' ∷ rest'
same_words {rest = rest} {first' = first'} h e e' = h ∙ ap (λ z. z ∷ rest) e ∙ ap (λ z. first' ∷ z) e'

-- what a reference resolves to is the name of a symbol
meant_symbol : (w : Workspace) (r : Reference) (m : List (List ℕ)) → meaning w r ≡ Some m → (s : Symbol) × Contains w.symbols s × (s.name ≡ m)
meant_symbol w r m h = go (hit w r) h
  where
    of_visible : (x : List (List ℕ)) → visible_as w r.file (may_resolve_to r.wants) x ≡ Some m → (s : Symbol) × Contains w.symbols s × (s.name ≡ m)
    of_visible x h =
        let t = visible_is w r.file (may_resolve_to r.wants) x m h in
        let s = shown w r.file (may_resolve_to r.wants) x t.0 in
        (s.0, s.1, s.2 ∙ t.1)

    go : (o : Option ℕ) → meaning_at w r o ≡ Some m → (s : Symbol) × Contains w.symbols s × (s.name ≡ m)
    go (Some k) h = of_visible (take k r.scope ++ r.words) h
    go None h = elim (cases_Bool r.is_absolute) [
      | inl abs ↦ of_visible r.words (sym (cond-true r.is_absolute (visible_as w r.file (may_resolve_to r.wants) r.words) None abs) ∙ h)
      | inr rel ↦ absurd (none-some m (sym (cond-false r.is_absolute (visible_as w r.file (may_resolve_to r.wants) r.words) None rel) ∙ h))
    ]

-- the row of what a reference resolves to, where there is one
module _ (t : Table) (ok : IsTable t) (w : Workspace) (index : IsIndexOf t w.symbols) (r : Reference) where
  abbrev name_at : ℕ → List ℕ
  name_at k = get_or (names_of t) k []

  sized : length (names_of t) ≡ length t.rows.items
  sized = length-map t.rows.items (λ z. z.name)

  -- the row is that of each symbol with its name
  row_kind : (k : ℕ) (s : Symbol) → Contains w.symbols s → name_at k ≡ joined s.name → (k < length t.rows.items) × ((d : Row) → (get_or t.rows.items k d).symbol.kind ≡ s.kind)
  row_kind k s c e =
      let i = index.row s c in
      let li : i.0 < length (names_of t) = omega (arith, i.1, sized) in
      elim (cases_lt k (length t.rows.items)) [
        | inl l ↦
            let same : i.0 ≡ k = names_apart (names_of t) (aboves_of t) (look t) ok.forest i.0 k li (omega (arith, l, sized)) (i.2 ∙ sym e) in
            (l, λ d. ap (λ z. (get_or t.rows.items z d).symbol.kind) (sym same) ∙ (i.3 d).0)
        | inr past ↦ absurd (name_some (names_of t) (aboves_of t) (look t) ok.forest i.0 li (i.2 ∙ sym e ∙ get_or_past (names_of t) k [] (omega (arith, past, sized))))
      ]

  -- what it resolves to, where the row is that of its name
  row_symbol : (k : ℕ) → Some (name_at k) ≡ option_map joined (meaning w r) → (s : Symbol) × Contains w.symbols s × (meaning w r ≡ Some s.name) × (name_at k ≡ joined s.name)
  row_symbol k is = go (meaning w r) refl
    where
      go : (o : Option (List (List ℕ))) → meaning w r ≡ o → (s : Symbol) × Contains w.symbols s × (meaning w r ≡ Some s.name) × (name_at k ≡ joined s.name)
      go None e = absurd (none-some (name_at k) (sym (is ∙ ap (option_map joined) e)))
      go (Some m) e =
          let s = meant_symbol w r m e in
          (s.0, s.1, e ∙ ap Some (sym s.2), same_Some (name_at k) (joined s.0.name) (is ∙ ap (option_map joined) (e ∙ ap Some (sym s.2))))

  kind_found : (k : ℕ) (s : Symbol) → Contains w.symbols s → name_at k ≡ joined s.name → kind_in t k ≡ Some s.kind
  kind_found k s c e =
      let i = row_kind k s c e in
      elim (slice_get_cases t.rows.items k).1 [
        | inl h ↦ ap (option_map (λ (z : Row). z.symbol.kind)) h.2 ∙ ap Some (ap (λ (z : Row). z.symbol.kind) (sym h.3) ∙ i.1 h.0)
        | inr h ↦ absurd (omega (arith, h.0, i.0))
      ]

  -- the kind of its row is that of what it resolves to
  pub kind_is : (o : Option ℕ) → option_map name_at o ≡ option_map joined (meaning w r) → IsKindOf w r (option_and_then (kind_in t) o)
  kind_is None is = go (meaning w r) refl
    where
      go : (o : Option (List (List ℕ))) → meaning w r ≡ o → meaning w r ≡ None
      go None e = e
      go (Some m) e = absurd (none-some (joined m) (is ∙ ap (option_map joined) e))
  kind_is (Some k) is =
      let s = row_symbol k is in
      let i = row_kind k s.0 s.1 s.3 in
      let d = pick t.rows.items k i.0 in
      subst (IsKindOf w r) (sym (kind_found k s.0 s.1 s.3)) (
        (s.0, s.1, s.2),
        λ u c h.
            (let j = row_kind k u c (same_Some (name_at k) (joined u.name) (is ∙ ap (option_map joined) h)) in
            sym (j.1 d) ∙ i.1 d),
      )

-- a reference of the file is one that the table can be asked for
pub asked_in : (t : Table) (seen : List Bool) (rows : List ℕ) (names : List (List (List ℕ))) (file : ℕ) (w : Workspace) → IsReadBy t seen rows names file w → (text : ℕ → List ℕ) (u : Use) → needs u.scope ≤ length rows → (scope : ℕ) → scope ≡ number_above rows u.scope → IsAsked t seen scope w (reference_by file names text u)
asked_in t seen rows names file w read text u l scope is = record { index = read.index; marks = read.marks; scope_plain = plain u.scope l; scope_is = ap (front (names_of t)) is ∙ named u.scope l }
  where
    plain : (a : Above) → needs a ≤ length rows → ArePlain (scope_above names a)
    plain Outermost l = tt
    plain (Below k) l = read.plain k [] (omega (arith, l, read.paired))

    named : (a : Above) → needs a ≤ length rows → front (names_of t) (number_above rows a) ≡ joined (scope_above names a)
    named Outermost l = refl
    named (Below k) l = read.named k (omega (arith, l))
