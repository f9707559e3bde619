-- Names of a link that some file declares, and the rows of its table that have them (for the crates above).
use Rattle.std.proofs.Common.{◌≡◌, ℕ, zero, suc, ◌<◌, true, false, cond, List, [], ◌∷◌, length, get_or, map, slice_get, Option, Some, None, option_map, option_and_then, refl, sym, ◌∙◌, ap, subst, inl, inr, arith, Contains}
use Rattle.proto_base.proofs.Common.{cases_Bool, get_or-map, length-map, slice_get-get_or, slice_get_within, get_or_from_slice_get, none-some, same_Some}
use Rattle.proto_names_rules.proofs.Common.{Reference, Workspace, joined, meaning, names_apart}
use Rattle.proto_names_table.proofs.Common.{IsIndexOf, IsTable, aboves_of, files_of, look, names_of, pick}
use Rattle.proto_names_table.specs.declared.table.Row.{Row}
use Rattle.proto_names_table.specs.declared.table.Table.{Table}
use Rattle.proto_names.specs.Common.{LinkOf, NameOf, declared_row, if_declared, is_empty, name_at, name_of_row}
use Rattle.proto_names.specs.Linking.{name_text}
use Rattle.proto_names.proofs.Referring.{row_kind, row_symbol}

-- ---- rows and their files

some_declared : (r : Row) → r.is_declared ≡ true → files_of r ≡ r.symbol.file ∷ r.more.items
some_declared r h = ap (λ b. cond b (r.symbol.file ∷ r.more.items) []) h

none_declared : (r : Row) → r.is_declared ≡ false → files_of r ≡ []
none_declared r h = ap (λ b. cond b (r.symbol.file ∷ r.more.items) []) h

pub has_file : (r : Row) → r.is_declared ≡ true → 0 < length (files_of r)
has_file r h = omega (arith, ap length (some_declared r h))

pub declared_from : (r : Row) → 0 < length (files_of r) → r.is_declared ≡ true
declared_from r l = elim (cases_Bool r.is_declared) [ inl h ↦ h | inr h ↦ absurd (omega (arith, l, ap length (none_declared r h))) ]

pub first_file : (r : Row) → r.is_declared ≡ true → get_or (files_of r) 0 0 ≡ r.symbol.file
first_file r h = ap (λ fs. get_or fs 0 0) (some_declared r h)

row_name : (r : Row) → if_declared (name_of_row r) ≡ option_map name_of_row (declared_row r)
row_name r = elim (cases_Bool r.is_declared) [
  | inl h ↦ ap (λ fs. cond (is_empty fs) None (Some (name_of_row r))) (some_declared r h) ∙ sym (ap (λ b. option_map name_of_row (cond b (Some r) None)) h)
  | inr h ↦ ap (λ fs. cond (is_empty fs) None (Some (name_of_row r))) (none_declared r h) ∙ sym (ap (λ b. option_map name_of_row (cond b (Some r) None)) h)
]

-- a name that is there is that of a row that is declared
pub name_is : (rows : List Row) (names : List NameOf) → map name_of_row rows ≡ names → (row : ℕ) → option_and_then if_declared (slice_get names row) ≡ option_map name_of_row (option_and_then declared_row (slice_get rows row))
name_is rows names same row = ap (λ (ns : List NameOf). option_and_then if_declared (slice_get ns row)) (sym same) ∙ go rows row
  where
    go : (rs : List Row) (k : ℕ) → option_and_then if_declared (slice_get (map name_of_row rs) k) ≡ option_map name_of_row (option_and_then declared_row (slice_get rs k))
    go [] k = refl
    go (r ∷ rs) zero = row_name r
    go (r ∷ rs) (suc k) = go rs k

-- ---- names

-- a name that is there is one of the names
pub there_is : (l : LinkOf) (row : ℕ) (n : NameOf) → name_at l row ≡ Some n → slice_get l.names row ≡ Some n
there_is l row n h = go (slice_get l.names row) h
  where
    by : (x : NameOf) (fs : List ℕ) → cond (is_empty fs) None (Some x) ≡ Some n → Some x ≡ Some n
    by x [] e = absurd (none-some n e)
    by x (f ∷ fs) e = e

    go : (o : Option NameOf) → option_and_then if_declared o ≡ Some n → o ≡ Some n
    go None e = absurd (none-some n e)
    go (Some x) e = by x x.files e

-- and has a file
pub has_files : (l : LinkOf) (row : ℕ) (n : NameOf) → name_at l row ≡ Some n → 0 < length n.files
has_files l row n h = go (slice_get l.names row) h
  where
    by : (x : NameOf) (fs : List ℕ) → x.files ≡ fs → cond (is_empty fs) None (Some x) ≡ Some n → 0 < length n.files
    by x [] e h = absurd (none-some n h)
    by x (f ∷ fs) e h = subst (λ (y : NameOf). 0 < length y.files) (same_Some x n h) (omega (arith, ap length e))

    go : (o : Option NameOf) → option_and_then if_declared o ≡ Some n → 0 < length n.files
    go None e = absurd (none-some n e)
    go (Some x) e = by x x.files refl e

pub declared_at : (l : LinkOf) (row : ℕ) (n : NameOf) → slice_get l.names row ≡ Some n → 0 < length n.files → name_at l row ≡ Some n
declared_at l row n h some = ap (option_and_then if_declared) h ∙ by n n.files some
  where
    by : (x : NameOf) (fs : List ℕ) → 0 < length fs → cond (is_empty fs) None (Some x) ≡ Some x
    by x [] l = absurd (omega (arith, l))
    by x (f ∷ fs) l = refl

-- a name with this text
pub some_text : (o : Option NameOf) (text : List ℕ) → option_map (λ n. n.text) o ≡ Some text → (n : NameOf) × (o ≡ Some n) × (n.text ≡ text)
some_text None text h = absurd (none-some text h)
some_text (Some n) text h = (n, refl, same_Some n.text text h)

-- ---- the rows of names

module _ (t : Table) (l : LinkOf) (same : map name_of_row t.rows.items ≡ l.names) where
  pub name_from : (row : ℕ) (d : Row) → row < length t.rows.items → 0 < length (files_of (get_or t.rows.items row d)) → name_at l row ≡ Some (name_of_row (get_or t.rows.items row d))
  name_from row d lr some =
      declared_at l row (name_of_row (get_or t.rows.items row d))
      (ap (λ (ns : List NameOf). slice_get ns row) (sym same)
      ∙ slice_get-get_or (map name_of_row t.rows.items) row (name_of_row d) (omega (arith, lr, length-map t.rows.items name_of_row))
      ∙ ap Some (get_or-map name_of_row t.rows.items row d (name_of_row d) lr)) some

  pub name_to : (row : ℕ) (n : NameOf) → name_at l row ≡ Some n → (row < length t.rows.items) × ((d : Row) → name_of_row (get_or t.rows.items row d) ≡ n)
  name_to row n h =
      let there : slice_get (map name_of_row t.rows.items) row ≡ Some n = ap (λ (ns : List NameOf). slice_get ns row) same ∙ there_is l row n h in
      let lr : row < length t.rows.items = omega (arith, slice_get_within (map name_of_row t.rows.items) row n there, length-map t.rows.items name_of_row) in
      (lr, λ d. sym (get_or-map name_of_row t.rows.items row d n lr) ∙ get_or_from_slice_get (map name_of_row t.rows.items) row n n there)

  pub text_to : (row : ℕ) (n : NameOf) → name_at l row ≡ Some n → (row < length t.rows.items) × (get_or (names_of t) row [] ≡ n.text)
  text_to row n h =
      let r = name_to row n h in
      let d = pick t.rows.items row r.0 in
      (r.0, get_or-map (λ x. x.name) t.rows.items row d [] r.0 ∙ ap (λ (x : NameOf). x.text) (r.1 d))

  pub text_from : (row : ℕ) (d : Row) (text : List ℕ) → row < length t.rows.items → (get_or t.rows.items row d).is_declared ≡ true → get_or (names_of t) row [] ≡ text → name_text l row ≡ Some text
  text_from row d text lr some e =
      ap (option_map (λ (n : NameOf). n.text)) (name_from row d lr (has_file (get_or t.rows.items row d) some))
      ∙ ap Some (sym (get_or-map (λ x. x.name) t.rows.items row d [] lr) ∙ e)

-- the row of what a reference means is declared
pub row_there : (t : Table) (ok : IsTable t) (l : LinkOf) → map name_of_row t.rows.items ≡ l.names → (w : Workspace) → IsIndexOf t w.symbols → (r : Reference) (row : ℕ) → Some (get_or (names_of t) row []) ≡ option_map joined (meaning w r)
    → (n : NameOf) × (name_at l row ≡ Some n) × (n.text ≡ get_or (names_of t) row [])
row_there t ok l same w index r row is =
    let s = row_symbol t ok w index r row is in
    let k = row_kind t ok w index r row s.0 s.1 s.3 in
    let i = index.row s.0 s.1 in
    let sized = length-map t.rows.items (λ z. z.name) in
    let here : i.0 ≡ row = names_apart (names_of t) (aboves_of t) (look t) ok.forest i.0 row (omega (arith, i.1, sized)) (omega (arith, k.0, sized)) (i.2 ∙ sym s.3) in
    let d = pick t.rows.items row k.0 in
    let files : Contains (files_of (get_or t.rows.items row d)) s.0.file = subst (λ j. Contains (files_of (get_or t.rows.items j d)) s.0.file) here (i.3 d).1 in
    (name_of_row (get_or t.rows.items row d), name_from t l same row d k.0 (omega (arith, files.1)), sym (get_or-map (λ x. x.name) t.rows.items row d [] k.0))

pub text_there : (t : Table) (ok : IsTable t) (l : LinkOf) → map name_of_row t.rows.items ≡ l.names → (w : Workspace) → IsIndexOf t w.symbols → (r : Reference) (row : ℕ) → Some (get_or (names_of t) row []) ≡ option_map joined (meaning w r)
    → name_text l row ≡ Some (get_or (names_of t) row [])
text_there t ok l same w index r row is =
    let n = row_there t ok l same w index r row is in
    ap (option_map (λ (x : NameOf). x.text)) n.1 ∙ ap Some n.2
