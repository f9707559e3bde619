-- One declaration of a file again in the table.
use Rattle.std.proofs.Common.{◌≡◌, ◌≢◌, ℕ, ◌+◌, ◌<◌, ◌≤◌, List, [], ◌∷◌, ◌++◌, length, get_or, map, take, Option, Some, None, Result, Ok, Err, IfOk, IfSome, IfNone, OnOk, OnErr, refl, sym, ◌∙◌, ap, subst, inl, inr, arith, append_assoc, Contains}
use Rattle.std.proofs.lemmas.List.{length-map, map-append, take_more}
use Rattle.std.specs.Cow.{cow_str_bytes}
use Rattle.proto_base.specs.declared.no_memory.NoMemory.{NoMemory}
use Rattle.proto_base.proofs.Common.{Contains-append_cases, Contains-append_left, contains_cases}
use Rattle.proto_base.specs.Undone.{AddedAreCut}
use Rattle.proto_names_rules.specs.declared.kind.Kind.TheVariants.{Package}
use Rattle.proto_names_rules.proofs.Common.{ArePlain, IsPlain, Symbol, at, front, joined, joined_apart, under}
use Rattle.proto_names_table.specs.Common.{AreRowsOfNames, AreSpelled, IsIndexOf, IsRowOf, IsTable, IsUnchanged, SymbolIsDeclared, TakesRow, declaration_of, look, named_in, names_of, number_above, symbol_named}
use Rattle.proto_names_table.specs.declared.spelled.Spelled.{Spelled}
use Rattle.proto_names_table.specs.declared.table.Symbol.{Symbol as Declaration}
use Rattle.proto_names_table.specs.declared.table.Table.{Table}
use Rattle.proto_names_table.proofs.Alike.{table_unchanged}
use Rattle.proto_names_table.proofs.Filled.{kept_itself}
use Rattle.proto_names_table.proofs.Held.{index_same}
use Rattle.proto_names_table.proofs.Naming.{named_kind, named_length, named_place, named_plain, named_text}
use Rattle.proto_names_table.proofs.Search.{pick}
use Rattle.proto_names_update.specs.NameLogs.{Fits, IsNoted, undone_table}
use Rattle.proto_names_update.specs.Renewal.{IsPackageOf}
use Rattle.proto_names_update.specs.declared.name_log.NameLog.{NameLog}
use Rattle.proto_names_update.specs.declared.name_log.Standing.{Standing}
use Rattle.proto_names_update.proofs.Undoing.{takes_fits, takes_undone, unchanged_fits, unchanged_undone}

-- ---- a package, which is there

module _ (t : Table) (text : List ℕ) (symbol : Declaration) (row : ℕ) (kind : symbol.kind ≡ Package) (there : IsPackageOf t text symbol.file row) where
  pub package_row : IsRowOf t t text symbol row
  package_row = record {
    kept = kept_itself t;
    within = there.within;
    name = there.name;
    declared = there.declared;
    new_or_package = inr (there.within, kind, there.kind, there.declared);
  }

  -- the symbol is one of those that the table has
  listed : (ss : List Symbol) (s : Symbol) → IsIndexOf t ss → ArePlain s.name → joined s.name ≡ text → s.kind ≡ symbol.kind → s.file ≡ symbol.file → Contains ss s
  listed ss s index plain name kinds file =
      let d = pick t.rows.items row there.within in
      let o = index.symbol row symbol.file d there.within (there.file_is d) in
      let n : o.0.name ≡ s.name = joined_apart o.0.name s.name (index.plain o.0 o.1) plain (o.2 ∙ there.name ∙ sym name) in
      let k : o.0.kind ≡ s.kind = o.3 ∙ there.kind d ∙ sym kind ∙ sym kinds in
      let f : o.0.file ≡ s.file = o.4 ∙ sym file in
      let same : o.0 ≡ s = λ i. record { name = n i; kind = k i; file = f i } in
      subst (Contains ss) same o.1

  pub package_declared : SymbolIsDeclared t t text symbol
  package_declared = record {
    fronts = λ n l. refl;
    named = (row, there.within, there.name);
    index = λ ss s index plain name kinds file.
        (let c = listed ss s index plain name kinds file in
        index_same t ss (ss ++ s ∷ []) (λ x m. Contains-append_left ss (s ∷ []) x m) (λ x m. elim (Contains-append_cases ss (s ∷ []) x m) [
          | inl a ↦ a
          | inr b ↦ elim (contains_cases s x [] b) [ inl e ↦ subst (Contains ss) e c | inr n ↦ absurd (omega (arith, n.1)) ]
        ]) index);
  }

pub package_rows : (t : Table) (text : List ℕ) (symbol : Declaration) (o : Option ℕ) → symbol.kind ≡ Package → IfSome o (IsPackageOf t text symbol.file) → IfSome o (IsRowOf t t text symbol)
package_rows t text symbol None kind there = tt
package_rows t text symbol (Some row) kind there = package_row t text symbol row kind there

pub packages_declared : (t : Table) (text : List ℕ) (symbol : Declaration) (o : Option ℕ) → symbol.kind ≡ Package → IfSome o (IsPackageOf t text symbol.file) → IfSome o (λ _. SymbolIsDeclared t t text symbol)
packages_declared t text symbol None kind there = tt
packages_declared t text symbol (Some row) kind there = package_declared t text symbol row kind there

-- ---- another symbol, whose row the log has

-- the row that a symbol took is the one that its name had
same_row : (old new : Table) (above : ℕ) (word : List ℕ) (symbol : Declaration) (row : ℕ) → IsTable old → above ≤ length old.rows.items → IsPlain word
    → IsRowOf old new (under (front (names_of old) above) word) symbol row → row < length old.rows.items → look old above word ≡ Some row
same_row old new above word symbol row ok within plain there l =
    let n = length-map old.rows.items (λ r. r.name) in
    ok.forest.complete above word row (omega (arith, within, n)) plain (omega (arith, l, n)) (sym (there.kept.names row l) ∙ there.name)

module _ (log : NameLog) (old new : Table) (above : ℕ) (word : List ℕ) (symbol : Declaration) (fits : Fits log old) (ok : IsTable old) (within : above ≤ length old.rows.items) (plain : IsPlain word) (ne : symbol.kind ≢ Package)
    (noted : (row : ℕ) → look old above word ≡ Some row → IsNoted log old row) where
  abbrev text : List ℕ
  text = under (front (names_of old) above) word

  pub undone_either : AddedAreCut Standing → (r : Result (Option ℕ) NoMemory) → IfOk r (λ o. IfSome o (IsRowOf old new text symbol)) → IfOk r (λ o. IfSome o (TakesRow old new symbol)) → IfOk r (λ o. IfNone o (IsUnchanged old new))
      → OnErr r (IsUnchanged old new) → undone_table log new ≡ undone_table log old
  undone_either cut (Ok None) there takes same kept = unchanged_undone old new same log
  undone_either cut (Ok (Some row)) there takes same kept = takes_undone log old new symbol row fits ok ne cut (λ l. noted row (same_row old new above word symbol row ok within plain there l)) takes
  undone_either cut (Err e) there takes same kept = unchanged_undone old new kept log

  pub fits_either : (r : Result (Option ℕ) NoMemory) → IfOk r (λ o. IfSome o (TakesRow old new symbol)) → IfOk r (λ o. IfNone o (IsUnchanged old new)) → OnErr r (IsUnchanged old new) → Fits log new
  fits_either (Ok None) takes same kept = unchanged_fits old new same log fits
  fits_either (Ok (Some row)) takes same kept = takes_fits log old new symbol row fits ok ne takes
  fits_either (Err e) takes same kept = unchanged_fits old new kept log fits

pub table_either : (old new : Table) (r : Result (Option ℕ) NoMemory) → IsTable old → OnOk r (IsTable new) → OnErr r (IsUnchanged old new) → IsTable new
table_either old new (Ok o) ok table kept = table
table_either old new (Err e) ok table kept = table_unchanged old new kept ok

-- ---- the symbols, with one of a file more

module _ (t t' : Table) (file : ℕ) (ss : List Spelled) (rows : List ℕ) (k : ℕ) (s : Spelled) (is : s ≡ get_or ss k s) (ok : AreSpelled ss) (l : k < length ss) (size : length rows ≡ k) (known : AreRowsOfNames t (named_in file ss) rows) where
  abbrev own : List ℕ
  own = under (front (names_of t) (number_above rows s.above)) (cow_str_bytes s.word)

  pub index_next : (symbols : List Symbol) → SymbolIsDeclared t t' own (declaration_of file s) → IsIndexOf t (symbols ++ map symbol_named (take k (named_in file ss))) → IsIndexOf t' (symbols ++ map symbol_named (take (k + 1) (named_in file ss)))
  index_next symbols declared index =
      let all = named_in file ss in
      let n = named_length file ss in
      let l' : k < length all = omega (arith, l, n) in
      let d = pick all k l' in
      let one = get_or all k d in
      let name : own ≡ joined one.name = ap (λ (z : Spelled). under (front (names_of t) (number_above rows z.above)) (cow_str_bytes z.word)) is ∙ named_text t file ss rows k s d ok known size l in
      let kind : one.kind ≡ s.kind = named_kind file ss k s d ok l ∙ ap (λ (z : Spelled). z.kind) (sym is) in
      let place : one.place ≡ at file s.token = named_place file ss k s d ok l ∙ ap (λ (z : Spelled). at file z.token) (sym is) in
      let more : symbols ++ map symbol_named (take (k + 1) all) ≡ (symbols ++ map symbol_named (take k all)) ++ symbol_named one ∷ [] =
      ap (λ z. symbols ++ z) (ap (map symbol_named) (take_more all k d l') ∙ map-append symbol_named (take k all) (one ∷ [])) ∙ sym (append_assoc symbols (map symbol_named (take k all)) (symbol_named one ∷ [])) in
      subst (IsIndexOf t') (sym more) (declared.index (symbols ++ map symbol_named (take k all)) (symbol_named one) index (named_plain file ss k d ok l) (sym name) kind (ap (λ z. z.file) place))
