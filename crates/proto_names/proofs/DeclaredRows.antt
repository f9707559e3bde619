-- The rows of what a file declares are those of its symbols.
use Rattle.std.proofs.Common.{◌≡◌, ◌↔◌, ℕ, suc, ◌+◌, ◌<◌, List, [], length, get_or, map, refl, sym, ◌∙◌, ap, subst, arith, All, Contains}
use Rattle.proto_base.proofs.Common.{All-contains, Contains-get_or, Vec, contains_map, from_map, get_or-map, get_or_default, length-map}
use Rattle.proto_case.specs.Camel.{entry_name}
use Rattle.proto_files.proofs.Common.{AreRead, FileOf, ReadOf, file_at, read_at}
use Rattle.proto_names_imports.proofs.Common.{name_in, names_are_plain, names_in, names_of_files, text_of}
use Rattle.proto_names_outline.proofs.Common.{items_in, package_first, same_declared, tree_span, whole}
use Rattle.proto_names_rules.proofs.Common.{ArePlain, At, FileAt, FileNames, Placed, Symbol, all_declared, at, declared_to, declares, file_placed, front, joined, joined_apart, name_of, names_apart, shifted_source, symbol_of}
use Rattle.proto_names_rules.proofs.Files.{declared_from}
use Rattle.proto_names.specs.Common.{AreNamesOf, declared_names}
use Rattle.proto_names_imports.proofs.NumberedFiles.{file_there, numbered}
use Rattle.proto_names_table.proofs.Common.{IsTable, aboves_of, look, names_of, pick}
use Rattle.proto_names_table.specs.declared.table.Row.{Row}
use Rattle.proto_names_table.specs.declared.table.Table.{Table}

-- ---- a file's list of names, and its symbols

module _ (files : List FileOf) (reads : List ReadOf) (are : AreRead files reads) where
  abbrev text : At → List ℕ
  text = text_of files reads

  abbrev placed : ℕ → List Placed
  placed k = package_first (items_in (read_at reads k).tree)

  abbrev own_name : ℕ → Placed → List (List ℕ)
  own_name k p = name_of (λ i. text (at k i)) entry_name (whole p)

  same_placed : (k : ℕ) → k < length files → (p : Placed) → Contains (placed k) p ↔ Contains (file_placed (items_in (read_at reads k).tree)) p
  same_placed k l p =
      let s = tree_span (file_at files k).profile (file_at files k).bytes (read_at reads k).tokens (read_at reads k).tree (are.trees k l) in
      same_declared (items_in (read_at reads k).tree) s.0 s.1 s.2 p

  there : (k : ℕ) → k < length files → FileAt 0 (map names_in reads) k (names_in (read_at reads k))
  there k l =
      let here : 0 + k ≡ k = omega arith in
      subst (λ (m : ℕ). FileAt 0 (map names_in reads) m (names_in (read_at reads k))) here (file_there 0 reads k (omega (arith, l, are.same)))

  -- a name of the file's list is that of a symbol of the file
  pub symbol_there : (k j : ℕ) → k < length files → j < length (declared_names files reads k)
      → (s : Symbol) × Contains (names_of_files files reads).symbols s × (s.file ≡ k) × (s.name ≡ get_or (declared_names files reads k) j [])
  symbol_there k j l m =
      let ps = placed k in
      let n : j < length ps = omega (arith, m, length-map ps (own_name k)) in
      let d = pick ps j n in
      let p = get_or ps j d in
      let declared = declared_to 0 (map names_in reads) k (names_in (read_at reads k)) (there k l) p ((same_placed k l p).0 (Contains-get_or ps j d n)) in
      let name : name_of text entry_name (map (shifted_source (at k)) (whole p)) ≡ get_or (declared_names files reads k) j [] =
      name_in text k (whole p) ∙ sym (get_or-map (own_name k) ps j d [] n) in (
        symbol_of text entry_name (declares k p),
        contains_map (symbol_of text entry_name) (all_declared 0 (map names_in reads)) (declares k p) declared,
        refl,
        name,
      )

  name_here : (file : ℕ) (p : Placed) (s : Symbol) → symbol_of text entry_name (declares file p) ≡ s → own_name s.file p ≡ s.name
  name_here file p s e =
      let stands : file ≡ s.file = ap (λ (z : Symbol). z.file) e in
      subst (λ (m : ℕ). own_name m p ≡ s.name) stands (sym (name_in text file (whole p)) ∙ ap (λ (z : Symbol). z.name) e)

  -- the symbol is in its file's list
  abbrev IsListed : Symbol → Type 0
  IsListed s = (j : ℕ) × (s.file < length files) × (j < length (declared_names files reads s.file)) × (get_or (declared_names files reads s.file) j [] ≡ s.name)

  listed_here : (s : Symbol) (file place : ℕ) (f : FileNames) (p : Placed) → symbol_of text entry_name (declares file p) ≡ s → file ≡ place → place < length reads → names_in (read_at reads place) ≡ f → Contains (file_placed f.items) p → IsListed s
  listed_here s file place f p e same l names c =
      let stands : file ≡ s.file = ap (λ (z : Symbol). z.file) e in
      let here : place ≡ s.file = sym same ∙ stands in
      let lf : s.file < length files = omega (arith, here, l, are.same) in
      let there : Contains (file_placed (names_in (read_at reads s.file)).items) p =
      subst (λ (m : ℕ). Contains (file_placed (names_in (read_at reads m)).items) p) here (subst (λ (x : FileNames). Contains (file_placed x.items) p) (sym names) c) in
      let x = contains_map (own_name s.file) (placed s.file) p ((same_placed s.file lf p).1 there) in
      (x.0, lf, x.1, get_or_default (declared_names files reads s.file) x.0 [] (own_name s.file p) x.1 ∙ x.2 ∙ name_here file p s e)

  pub symbol_listed : (s : Symbol) → Contains (names_of_files files reads).symbols s → IsListed s
  symbol_listed s c =
      let d = from_map (symbol_of text entry_name) (all_declared 0 (map names_in reads)) s c in
      let from = declared_from 0 (map names_in reads) d.0 d.1 in
      let i = numbered 0 reads from.file from.f from.there in
      listed_here s from.file i.place from.f from.p (ap (symbol_of text entry_name) from.is ∙ d.2) (omega (arith, i.file_is)) i.within i.names_are from.within

-- ---- a row of the table

-- the row of a symbol, which is one of its file's
pub record IsRowOf (t : Table) (rows : List (Vec ℕ)) (s : Symbol) (row : ℕ) : Type 0 where
  pub listed : Contains (get_or (map (λ v. v.items) rows) s.file []) row
  pub within : row < length t.rows.items
  pub name : get_or (names_of t) row [] ≡ joined s.name
  pub kind_is : (r : Row) → (get_or t.rows.items row r).symbol.kind ≡ s.kind

module _ (files : List FileOf) (reads : List ReadOf) (are : AreRead files reads) (t : Table) (ok : IsTable t) (rows : List (Vec ℕ)) (names : AreNamesOf files reads t rows) (paired : length rows ≡ length files)
    (bounds : All (λ v. All (λ r. r < length t.rows.items) v.items) rows) where
  abbrev own : ℕ → List ℕ
  own k = get_or (map (λ v. v.items) rows) k []

  row_within : (k row : ℕ) → k < length files → Contains (own k) row → row < length t.rows.items
  row_within k row l c =
      let lr : k < length rows = omega (arith, l, paired) in
      let v = pick rows k lr in
      let own_is : own k ≡ (get_or rows k v).items = get_or-map (λ v. v.items) rows k v [] lr in
      All-contains (λ r. r < length t.rows.items) (get_or rows k v).items row (bounds k v lr) (subst (λ (xs : List ℕ). Contains xs row) own_is c)

  apart : (i j : ℕ) → i < length t.rows.items → j < length t.rows.items → get_or (names_of t) i [] ≡ get_or (names_of t) j [] → i ≡ j
  apart i j li lj e =
      let sized = length-map t.rows.items (λ r. r.name) in
      names_apart (names_of t) (aboves_of t) (look t) ok.forest i j (omega (arith, li, sized)) (omega (arith, lj, sized)) e

  -- a row that has a symbol's name has its kind
  kind_at : (s : Symbol) → Contains (names_of_files files reads).symbols s → (row : ℕ) → row < length t.rows.items → get_or (names_of t) row [] ≡ joined s.name → (r : Row) → (get_or t.rows.items row r).symbol.kind ≡ s.kind
  kind_at s c row l e r =
      let x = names.index.row s c in
      let here : x.0 ≡ row = apart x.0 row x.1 l (x.2 ∙ sym e) in
      subst (λ (k : ℕ). (get_or t.rows.items k r).symbol.kind ≡ s.kind) here (x.3 r).0

  named_at : (k j : ℕ) → k < length files → j < length (own k) → get_or (names_of t) (get_or (own k) j 0) [] ≡ joined (get_or (declared_names files reads k) j [])
  named_at k j l m =
      let next : suc (get_or (own k) j 0) ≡ get_or (own k) j 0 + 1 = omega arith in
      ap (front (names_of t)) next ∙ names.named k j l m

  pub row_of_symbol : (s : Symbol) → Contains (names_of_files files reads).symbols s → (row : ℕ) × IsRowOf t rows s row
  row_of_symbol s c =
      let x = symbol_listed files reads are s c in
      let m : x.0 < length (own s.file) = omega (arith, x.2, names.counts s.file x.1) in
      let row = get_or (own s.file) x.0 0 in
      let listed = Contains-get_or (own s.file) x.0 0 m in
      let within = row_within s.file row x.1 listed in
      let name : get_or (names_of t) row [] ≡ joined s.name = named_at s.file x.0 x.1 m ∙ ap joined x.3 in
      (row, record { listed = listed; within = within; name = name; kind_is = kind_at s c row within name })

  pub symbol_of_row : (k row : ℕ) → k < length files → Contains (own k) row → (s : Symbol) × Contains (names_of_files files reads).symbols s × (s.file ≡ k) × IsRowOf t rows s row
  symbol_of_row k row l c =
      let row_is : get_or (own k) c.0 0 ≡ row = get_or_default (own k) c.0 0 row c.1 ∙ c.2 in
      let x = symbol_there files reads are k c.0 l (omega (arith, c.1, names.counts k l)) in
      let within = row_within k row l c in
      let name : get_or (names_of t) row [] ≡ joined x.0.name =
      ap (λ (m : ℕ). get_or (names_of t) m []) (sym row_is) ∙ named_at k c.0 l c.1 ∙ ap joined (sym x.3) in (
        x.0,
        x.1,
        x.2,
        record { listed = subst (λ (m : ℕ). Contains (own m) row) (sym x.2) c; within = within; name = name; kind_is = kind_at x.0 x.1 row within name },
      )

  -- a symbol is there whose name, file and kind a row of the file has
  pub symbol_by_row : (s : Symbol) → ArePlain s.name → s.file < length files → (row : ℕ) → Contains (own s.file) row → (row < length t.rows.items → get_or (names_of t) row [] ≡ joined s.name) → ((r : Row) → (get_or t.rows.items row r).symbol.kind ≡ s.kind)
      → Contains (names_of_files files reads).symbols s
  symbol_by_row s plain l row c named kind_is =
      let u = symbol_of_row s.file row l c in
      let x = u.3 in
      let r = pick t.rows.items row x.within in
      let name : u.0.name ≡ s.name = joined_apart u.0.name s.name (names_are_plain files reads are u.0 u.1) plain (sym x.name ∙ named x.within) in
      let kind = sym (x.kind_is r) ∙ kind_is r in
      let file = u.2 in
      let same : u.0 ≡ s = λ i. record { name = name i; kind = kind i; file = file i } in
      subst (Contains (names_of_files files reads).symbols) same u.1
