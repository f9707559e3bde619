-- A type that a name stands right below is declared by the name's file, and by no other.
use Rattle.std.proofs.Common.{◌≡◌, ℕ, zero, suc, ◌<◌, true, List, [], ◌∷◌, ◌++◌, length, get_or, slice_get, Option, Some, None, refl, sym, ◌∙◌, ap, subst, inl, inr, arith, true≢false, All, Contains}
use Rattle.std.proofs.lemmas.Option.{get_or_from_slice_get, slice_get_within}
use Rattle.proto_base.proofs.Common.{Vec, get_or-map, length-map}
use Rattle.proto_files.proofs.Common.{AreRead, FileOf, ReadOf}
use Rattle.proto_names_imports.proofs.Common.{names_are_plain, names_of_files}
use Rattle.proto_names_rules.specs.Marked.{IsScopeOf}
use Rattle.proto_names_affected.specs.KindRows.{is_below_type, is_row_below_type, is_type_number, is_type_row}
use Rattle.proto_names_rules.proofs.Common.{ArePlain, Symbol, front, is_type, joined, name_some, names_apart, one_symbol, under, under_apart}
use Rattle.proto_names.proofs.DeclaredRows.{IsRowOf, row_of_symbol}
use Rattle.proto_names.proofs.Scopes.{plain_parts}
use Rattle.proto_names.specs.Common.{AreNamesOf}
use Rattle.proto_names_update.proofs.Clean.{names_apart as symbols_apart, nested}
use Rattle.proto_names_update.specs.Relinked.{NoNameClashes}
use Rattle.proto_names_table.proofs.Common.{IsTable, aboves_of, joined_more, look, names_of, pick}
use Rattle.proto_names_table.specs.declared.table.Row.{Row}
use Rattle.proto_names_table.specs.declared.table.Table.{Table}

-- the row of the type that a row's name stands right below
record StandsBelow (t : Table) (row : ℕ) : Type 0 where
  above : ℕ
  within : above < length t.rows.items
  number : get_or (aboves_of t) row 0 ≡ suc above
  typed : (r : Row) → is_type (get_or t.rows.items above r).symbol.kind ≡ true

module _ (t : Table) where
  type_at : (row above : ℕ) → get_or (aboves_of t) row 0 ≡ suc above → (o : Option Row) → slice_get t.rows.items above ≡ o → is_type_row o ≡ true → StandsBelow t row
  type_at row above e None at h = absurd (true≢false (sym h))
  type_at row above e (Some own) at h = record {
    above = above;
    within = slice_get_within t.rows.items above own at;
    number = e;
    typed = λ r. ap (λ (x : Row). is_type x.symbol.kind) (get_or_from_slice_get t.rows.items above own r at) ∙ h;
  }

  type_numbered : (row number : ℕ) → get_or (aboves_of t) row 0 ≡ number → is_type_number t number ≡ true → StandsBelow t row
  type_numbered row zero e h = absurd (true≢false (sym h))
  type_numbered row (suc above) e h = type_at row above e (slice_get t.rows.items above) refl h

  type_above : (row : ℕ) (o : Option Row) → slice_get t.rows.items row ≡ o → is_row_below_type t o ≡ true → StandsBelow t row
  type_above row None at h = absurd (true≢false (sym h))
  type_above row (Some own) at h =
      let number : get_or (aboves_of t) row 0 ≡ own.above =
      get_or-map (λ (x : Row). x.above) t.rows.items row own 0 (slice_get_within t.rows.items row own at)
      ∙ ap (λ (x : Row). x.above) (get_or_from_slice_get t.rows.items row own own at) in
      type_numbered row own.above number h

  module _ (ok : IsTable t) where
    sized : length (names_of t) ≡ length t.rows.items
    sized = length-map t.rows.items (λ r. r.name)

    -- its name is that of the row without the last word
    named_above : (row : ℕ) → row < length t.rows.items → (b : StandsBelow t row) → (scope : List (List ℕ)) (last : List ℕ) → ArePlain (scope ++ last ∷ []) → get_or (names_of t) row [] ≡ joined (scope ++ last ∷ []) → get_or (names_of t) b.above [] ≡ joined scope
    named_above row l b scope last plain named =
        let g = (ok.forest.grown row (omega (arith, l, sized))).1 in
        let p = plain_parts scope (last ∷ []) plain in
        let same : under (front (names_of t) (get_or (aboves_of t) row 0)) g.0 ≡ under (joined scope) last = sym g.2 ∙ named ∙ joined_more scope last p.0 in
        ap (front (names_of t)) (sym b.number) ∙ (under_apart (front (names_of t) (get_or (aboves_of t) row 0)) g.0 (joined scope) last g.1 p.1.0 same).0

    -- and is not empty
    some_scope : (row : ℕ) → row < length t.rows.items → (scope : List (List ℕ)) → get_or (names_of t) row [] ≡ joined scope → 0 < length scope
    some_scope row l [] e = absurd (name_some (names_of t) (aboves_of t) (look t) ok.forest row (omega (arith, l, sized)) e)
    some_scope row l (word ∷ scope) e = omega arith

module _ (files : List FileOf) (reads : List ReadOf) (are : AreRead files reads) (t : Table) (ok : IsTable t) (rows : List (Vec ℕ)) (names : AreNamesOf files reads t rows) (paired : length rows ≡ length files)
    (bounds : All (λ v. All (λ r. r < length t.rows.items) v.items) rows) (clear : NoNameClashes files reads) where
  abbrev symbols : List Symbol
  symbols = (names_of_files files reads).symbols

  -- where names do not clash, a file that declares the type is the one that declares the name below it
  pub declares_alone : (s : Symbol) → Contains symbols s → (row : ℕ) → IsRowOf t rows s row → (scope : List (List ℕ)) (last : List ℕ) → s.name ≡ scope ++ last ∷ [] → (file : ℕ) → IsScopeOf (names_of_files files reads) file scope → is_below_type t row ≡ true → file ≡ s.file
  declares_alone s cs row is scope last name file declared below =
      let b = type_above t row (slice_get t.rows.items row) refl below in
      let plain = subst ArePlain name (names_are_plain files reads are s cs) in
      let named = named_above t ok row is.within b scope last plain (is.name ∙ ap joined name) in
      let long = some_scope t ok b.above b.within scope named in
      let u = nested files reads s cs scope last name long in
      let own = row_of_symbol files reads are t ok rows names paired bounds u.0 u.1 in
      let here : b.above ≡ own.0 =
      names_apart (names_of t) (aboves_of t) (look t) ok.forest b.above own.0 (omega (arith, b.within, sized t ok)) (omega (arith, own.1.within, sized t ok)) (named ∙ ap joined (sym u.2) ∙ sym own.1.name) in
      let r = pick t.rows.items b.above b.within in
      let typed : is_type u.0.kind ≡ true = ap is_type (sym (own.1.kind_is r)) ∙ ap (λ (k : ℕ). is_type (get_or t.rows.items k r).symbol.kind) (sym here) ∙ b.typed r in
      let other = declared long in
      elim (one_symbol symbols (symbols_apart files reads clear) u.0 other.0 u.1 other.1 (u.2 ∙ sym other.2)) [
        | inl same ↦ sym other.3 ∙ ap (λ (z : Symbol). z.file) (sym same) ∙ u.3
        | inr both ↦ absurd (true≢false (sym typed ∙ ap is_type both.0))
      ]
