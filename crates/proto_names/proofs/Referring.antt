-- What a reference means by its row, and what is wrong with it.
use Rattle.std.proofs.Common.{◌≡◌, ◌⊎◌, ℕ, suc, ◌+◌, ◌<◌, ◌≤◌, Bool, List, [], ◌∷◌, ◌++◌, length, get_or, slice_get, take, drop, map, Option, Some, None, option_map, Result, Ok, Err, Bor, refl, sym, ◌∙◌, ap, subst, inl, inr, arith, ok_or, All, Contains, take-append-drop}
use Rattle.std.specs.Slice.{IsItemAt}
use Rattle.proto_base.proofs.Common.{cases_Bool, cases_lt, cond-true, cond-false, none-some, same_Some, slice_get_cases, slice_get_past, slice_get_read, length-map, map-append, get_or_past, get_or-map, All-append, All-cons, All-nil}
use Rattle.std.proofs.Math.Seq.{drop-cons}
use Rattle.proto_names_rules.specs.declared.kind.Kind.{Kind}
use Rattle.proto_names_rules.specs.declared.kind.Kind.TheVariants.{Entry, Enum}
use Rattle.proto_names_rules.specs.declared.wants.Wants.{Wants}
use Rattle.proto_names_rules.specs.declared.wants.Wants.TheVariants as wants
use Rattle.proto_names_rules.proofs.Common.{Symbol, Reference, Workspace, may_resolve_to, meaning, meaning_at, hit, visible_as, joined, ArePlain, front, names_apart, name_some, visible_is, shown}
use Rattle.proto_names_table.specs.declared.table.Row.{Row}
use Rattle.proto_names_table.specs.declared.table.Table.{Table}
use Rattle.proto_names_table.proofs.Common.{names_of, aboves_of, look, IsTable, IsIndexOf, IsAsked}
use Rattle.proto_names.specs.Common.{reference_by, first_key, first_token_of_use, IsReadBy, IsFlawed, IsFaultless, AreMeant, IsFirstBad, enum_flaw, kind_flaw, found_flaw, row_flaw, scope_above, BadReference, Meant, ReferenceFlaw, Unresolved, WrongKind, MapEntry}
use Rattle.proto_names_table.specs.Filling.{number_above}
use Rattle.proto_names_outline.proofs.Common.{needs}
use Rattle.proto_names_outline.specs.declared.listing.Above.{Above}
use Rattle.proto_names_outline.specs.declared.listing.Above.TheVariants.{Outermost, Below}
use Rattle.proto_names_outline.specs.declared.listing.Use.{Use}
use Rattle.proto_names_imports.proofs.Turned.{take_more}

-- the words of a reference by its first and the others
pub same_words : {ws rest rest' : List (List ℕ)} {first first' : List ℕ} → ws ≡ first ∷ rest → first ≡ first' → rest ≡ rest' → ws ≡ first' ∷ rest'
same_words {rest = rest} {first' = first'} h e e' = h ∙ ap (λ z. z ∷ rest) e ∙ ap (λ z. first' ∷ z) e'

-- what is meant is the name of a symbol
pub meant_symbol : (w : Workspace) (r : Reference) (m : List (List ℕ)) → meaning w r ≡ Some m → (s : Symbol) × Contains w.symbols s × (s.name ≡ m)
meant_symbol w r m h = go (hit w r) h
  where
    of_visible : (x : List (List ℕ)) → visible_as w r.file (may_resolve_to r.wants) x ≡ Some m → (s : Symbol) × Contains w.symbols s × (s.name ≡ m)
    of_visible x h =
        let t = visible_is w r.file (may_resolve_to r.wants) x m h in
        let s = shown w r.file (may_resolve_to r.wants) x t.0 in
        (s.0, s.1, s.2 ∙ t.1)

    go : (o : Option ℕ) → meaning_at w r o ≡ Some m → (s : Symbol) × Contains w.symbols s × (s.name ≡ m)
    go (Some k) h = of_visible (take k r.scope ++ r.words) h
    go None h = elim (cases_Bool r.is_absolute) [
      | inl abs ↦ of_visible r.words (sym (cond-true r.is_absolute (visible_as w r.file (may_resolve_to r.wants) r.words) None abs) ∙ h)
      | inr rel ↦ absurd (none-some m (sym (cond-false r.is_absolute (visible_as w r.file (may_resolve_to r.wants) r.words) None rel) ∙ h))
    ]

-- a kind that is wrong
kind_flawed : (kind : Kind) (what : Wants) (flaw : ReferenceFlaw) → kind_flaw kind what ≡ Some flaw → ((kind ≡ Entry) × (flaw ≡ MapEntry)) ⊎ ((kind ≡ Enum) × (what ≡ wants.Message) × (flaw ≡ WrongKind))
kind_flawed Entry what flaw h = inl (refl, sym (same_Some MapEntry flaw h))
kind_flawed Enum wants.Type flaw h = absurd (none-some flaw h)
kind_flawed Enum wants.Message flaw h = inr (refl, refl, sym (same_Some WrongKind flaw h))
kind_flawed Enum wants.Extension flaw h = absurd (none-some flaw h)
kind_flawed _ what flaw h = absurd (none-some flaw h)

-- the row of what a reference means, where there is one
module _ (t : Table) (ok : IsTable t) (w : Workspace) (index : IsIndexOf t w.symbols) (r : Reference) where
  abbrev pub name_at : ℕ → List ℕ
  name_at k = get_or (names_of t) k []

  sized : length (names_of t) ≡ length t.rows.items
  sized = length-map t.rows.items (λ z. z.name)

  -- the row is that of each symbol with its name
  pub row_kind : (k : ℕ) (s : Symbol) → Contains w.symbols s → name_at k ≡ joined s.name → (k < length t.rows.items) × ((d : Row) → (get_or t.rows.items k d).symbol.kind ≡ s.kind)
  row_kind k s c e =
      let i = index.row s c in
      let li : i.0 < length (names_of t) = omega (arith, i.1, sized) in
      elim (cases_lt k (length t.rows.items)) [
        | inl l ↦
            let same : i.0 ≡ k = names_apart (names_of t) (aboves_of t) (look t) ok.forest i.0 k li (omega (arith, l, sized)) (i.2 ∙ sym e) in
            (l, λ d. ap (λ z. (get_or t.rows.items z d).symbol.kind) (sym same) ∙ (i.3 d).0)
        | inr past ↦ absurd (name_some (names_of t) (aboves_of t) (look t) ok.forest i.0 li (i.2 ∙ sym e ∙ get_or_past (names_of t) k [] (omega (arith, past, sized))))
      ]

  -- what is meant, where the row is that of its name
  pub row_symbol : (k : ℕ) → Some (name_at k) ≡ option_map joined (meaning w r) → (s : Symbol) × Contains w.symbols s × (meaning w r ≡ Some s.name) × (name_at k ≡ joined s.name)
  row_symbol k is = go (meaning w r) refl
    where
      go : (o : Option (List (List ℕ))) → meaning w r ≡ o → (s : Symbol) × Contains w.symbols s × (meaning w r ≡ Some s.name) × (name_at k ≡ joined s.name)
      go None e = absurd (none-some (name_at k) (sym (is ∙ ap (option_map joined) e)))
      go (Some m) e =
          let s = meant_symbol w r m e in
          (s.0, s.1, e ∙ ap Some (sym s.2), same_Some (name_at k) (joined s.0.name) (is ∙ ap (option_map joined) (e ∙ ap Some (sym s.2))))

  -- what is wrong with the row is what is wrong with the symbol
  found_kind : (k : ℕ) (s : Symbol) → Contains w.symbols s → name_at k ≡ joined s.name → found_flaw (slice_get t.rows.items k) r.wants ≡ kind_flaw s.kind r.wants
  found_kind k s c e =
      let i = row_kind k s c e in
      elim (slice_get_cases t.rows.items k).1 [
        | inl h ↦ ap (λ o. found_flaw o r.wants) h.2 ∙ ap (λ z. kind_flaw z r.wants) (ap (λ z. z.symbol.kind) (sym h.3) ∙ i.1 h.0)
        | inr h ↦ absurd (omega (arith, h.0, i.0))
      ]

  -- what is wrong with the row is wrong with the reference
  pub row_flawed : (o : Option ℕ) (flaw : ReferenceFlaw) → option_map name_at o ≡ option_map joined (meaning w r) → row_flaw t o r.wants ≡ Some flaw → IsFlawed w r flaw
  row_flawed None flaw is f = subst (IsFlawed w r) (same_Some Unresolved flaw f) (go (meaning w r) refl)
    where
      go : (o : Option (List (List ℕ))) → meaning w r ≡ o → meaning w r ≡ None
      go None e = e
      go (Some m) e = absurd (none-some (joined m) (is ∙ ap (option_map joined) e))
  row_flawed (Some k) flaw is f =
      let s = row_symbol k is in
      elim (kind_flawed s.0.kind r.wants flaw (sym (found_kind k s.0 s.1 s.3) ∙ f)) [
        | inl h ↦ subst (IsFlawed w r) (sym h.1) (s.0, s.1, s.2, h.0)
        | inr h ↦ subst (IsFlawed w r) (sym h.2) (s.0, s.1, s.2, h.1, h.0)
      ]

  -- nothing is wrong with the row, nor with the reference
  pub row_faultless : (k : ℕ) → Some (name_at k) ≡ option_map joined (meaning w r) → row_flaw t (Some k) r.wants ≡ None → (k < length t.rows.items) × IsFaultless w r
  row_faultless k is f =
      let s = row_symbol k is in
      ((row_kind k s.0 s.1 s.3).0, go)
    where
      none : (s : Symbol) → Contains w.symbols s → meaning w r ≡ Some s.name → kind_flaw s.kind r.wants ≡ None
      none s c e = sym (found_kind k s c (same_Some (name_at k) (joined s.name) (is ∙ ap (option_map joined) e))) ∙ f

      go : IsFaultless w r
      go Unresolved h = none-some (name_at k) (sym (is ∙ ap (option_map joined) h))
      go WrongKind h = none-some WrongKind (sym (none h.0 h.1 h.2) ∙ ap (λ z. kind_flaw z r.wants) h.4 ∙ ap enum_flaw h.3)
      go MapEntry h = none-some MapEntry (sym (none h.0 h.1 h.2) ∙ ap (λ z. kind_flaw z r.wants) h.3)

-- a reference of the file is one that the table can be asked for
pub asked_in : (t : Table) (seen : List Bool) (rows : List ℕ) (names : List (List (List ℕ))) (file : ℕ) (w : Workspace) → IsReadBy t seen rows names file w → (text : ℕ → List ℕ) (u : Use) → needs u.scope ≤ length rows → (scope : ℕ) → scope ≡ number_above rows u.scope → IsAsked t seen scope w (reference_by file names text u)
asked_in t seen rows names file w read text u l scope is = record { index = read.index; marks = read.marks; scope_plain = plain u.scope l; scope_is = ap (front (names_of t)) is ∙ named u.scope l }
  where
    plain : (a : Above) → needs a ≤ length rows → ArePlain (scope_above names a)
    plain Outermost l = tt
    plain (Below k) l = read.plain k [] (omega (arith, l, read.paired))

    named : (a : Above) → needs a ≤ length rows → front (names_of t) (number_above rows a) ≡ joined (scope_above names a)
    named Outermost l = refl
    named (Below k) l = read.named k (omega (arith, l))

module _ (t : Table) (w : Workspace) (f : Use → Reference) where
  abbrev said : Meant → Option (List ℕ)
  said m = Some (get_or (names_of t) m.row [])

  abbrev told : Reference → Option (List ℕ)
  told r = option_map joined (meaning w r)

  -- one reference more
  pub meant_more : (us : List Use) (ms : List Meant) (u : Use) (m : Meant) → AreMeant t w (map f us) (map first_token_of_use us) ms → m.token ≡ first_token_of_use u → m.first ≡ first_key (f u) → Some (get_or (names_of t) m.row []) ≡ option_map joined (meaning w (f u))
      → (m.row < length t.rows.items) × IsFaultless w (f u) → AreMeant t w (map f (us ++ u ∷ [])) (map first_token_of_use (us ++ u ∷ [])) (ms ++ m ∷ [])
  meant_more us ms u m a token first is sound = record {
    places = map-append (λ m. m.token) ms (m ∷ []) ∙ ap (λ z. z ++ m.token ∷ []) a.places ∙ ap (λ z. map first_token_of_use us ++ z ∷ []) token ∙ sym (map-append first_token_of_use us (u ∷ []));
    firsts = map-append (λ m. m.first) ms (m ∷ []) ∙ ap (λ z. z ++ m.first ∷ []) a.firsts ∙ ap (λ z. map first_key (map f us) ++ z ∷ []) first
        ∙ sym (map-append first_key (map f us) (f u ∷ [])) ∙ ap (map first_key) (sym (map-append f us (u ∷ [])));
    within = All-append (λ m. m.row < length t.rows.items) ms (m ∷ []) a.within (All-cons (λ m. m.row < length t.rows.items) m [] sound.0 (All-nil (λ m. m.row < length t.rows.items)));
    names = map-append said ms (m ∷ []) ∙ ap (λ z. z ++ said m ∷ []) a.names ∙ ap (λ z. map told (map f us) ++ z ∷ []) is
        ∙ sym (map-append told (map f us) (f u ∷ [])) ∙ ap (map told) (sym (map-append f us (u ∷ [])));
    faultless = subst (All (IsFaultless w)) (sym (map-append f us (u ∷ []))) (All-append (IsFaultless w) (map f us) (f u ∷ []) a.faultless (All-cons (IsFaultless w) (f u) [] sound.1 (All-nil (IsFaultless w))));
  }

  pub meant_step : (uses : List Use) (i : ℕ) (ms : List Meant) (u : Use) (m : Meant) → i < length uses → u ≡ get_or uses i u → AreMeant t w (map f (take i uses)) (map first_token_of_use (take i uses)) ms → m.token ≡ first_token_of_use u → m.first ≡ first_key (f u) → Some (get_or (names_of t) m.row []) ≡ option_map joined (meaning w (f u))
      → (m.row < length t.rows.items) × IsFaultless w (f u) → AreMeant t w (map f (take (i + 1) uses)) (map first_token_of_use (take (i + 1) uses)) (ms ++ m ∷ [])
  meant_step uses i ms u m l here a token first is sound =
      let more : take (i + 1) uses ≡ take i uses ++ u ∷ [] = take_more uses i u l ∙ ap (λ z. take i uses ++ z ∷ []) (sym here) in
      subst (λ us. AreMeant t w (map f us) (map first_token_of_use us) (ms ++ m ∷ [])) (sym more) (meant_more (take i uses) ms u m a token first is sound)

  -- a faulty one behind those
  pub first_bad : (file : ℕ) (uses : List Use) (i : ℕ) (ms : List Meant) (u : Use) (bad : BadReference) → i < length uses → u ≡ get_or uses i u → AreMeant t w (map f (take i uses)) (map first_token_of_use (take i uses)) ms → bad.file ≡ file → bad.token ≡ first_token_of_use u → IsFlawed w (f u) bad.flaw → IsFirstBad w f file uses bad
  first_bad file uses i ms u bad l here a at token flawed = record {
    before = take i uses;
    faulty = u;
    behind = drop (suc i) uses;
    parts = sym (take-append-drop i uses) ∙ ap (λ z. take i uses ++ z) (drop-cons uses i u l ∙ ap (λ z. z ∷ drop (suc i) uses) (sym here));
    file_is = at;
    token_is = token;
    flawed = flawed;
    faultless = λ k d b. subst (IsFaultless w) (get_or-map f (take i uses) k d (f d) b) (a.faultless k (f d) (omega (arith, b, length-map (take i uses) f)));
  }

-- what is wrong with a reference is what is wrong with the row that `get` answers
pub row_got : (t : Table) (rows : List Row) → rows ≡ t.rows.items → (k : ℕ) (what : Wants) (row : Option ℕ) → row ≡ Some k → (got : Option (Bor Row)) → IsItemAt rows k got
    → (found : Option (Bor Row)) → got ≡ found → row_flaw t row what ≡ found_flaw (option_map (λ r. r.now) found) what
row_got t rows rows_are k what row row_is got item found found_is =
    ap (λ o. row_flaw t o what) row_is ∙ ap (λ (rs : List Row). found_flaw (slice_get rs k) what) (sym rows_are)
    ∙ ap (λ o. found_flaw o what) (there got item ∙ ap (option_map (λ r. r.now)) found_is)
  where
    there : (got : Option (Bor Row)) → IsItemAt rows k got → slice_get rows k ≡ option_map (λ r. r.now) got
    there None h = slice_get_past rows k h.3
    there (Some r) h = slice_get_read rows (length rows) k r.now refl h.3.0 h.1

-- a flaw that stands for want of a value is the one that was given
pub else_error : {X : Type 0} (o : Option X) (flaw : ReferenceFlaw) → ◌≡◌ {A = Result X ReferenceFlaw} (Err flaw) (ok_or o Unresolved) → Some Unresolved ≡ Some flaw
else_error {X} o flaw h = ap Some (sym (ap error h ∙ given o))
  where
    error : Result X ReferenceFlaw → ReferenceFlaw
    error (Ok x) = Unresolved
    error (Err e) = e

    given : (o : Option X) → error (ok_or o Unresolved) ≡ Unresolved
    given None = refl
    given (Some x) = refl
