-- The table of a link of files has the names of the files.
use Rattle.std.proofs.Common.{◌≡◌, ◌≢◌, ℕ, suc, ◌+◌, ◌<◌, true, List, [], length, get_or, map, Some, sym, ◌∙◌, ap, subst, arith, All, Contains}
use Rattle.proto_base.proofs.Common.{Vec, contains_map, get_or-map, get_or_default, length-map}
use Rattle.proto_case.specs.Camel.{entry_name}
use Rattle.proto_files.proofs.Common.{AreRead, FileOf, ReadOf}
use Rattle.proto_names_imports.proofs.Common.{link_skeleton, names_are_plain, names_of_files, text_of}
use Rattle.proto_names_rules.proofs.Common.{ArePlain, At, Declared, at, front, joined, symbol_of}
use Rattle.proto_names_rules.specs.declared.kind.Kind.TheVariants.{Package}
use Rattle.proto_names.proofs.DeclaredRows.{symbol_there}
use Rattle.proto_names.proofs.EachFile.{same_at}
use Rattle.proto_names.proofs.LinkIndex.{link_index}
use Rattle.proto_names.proofs.NamesThere.{declared_from, first_file, has_files, name_to, some_text, text_to}
use Rattle.proto_names.specs.Common.{AreNamesOf, LinkOf, NameOf, RowIsDeclaredIn, declared_names, name_at}
use Rattle.proto_names.specs.Linking.{name_text}
use Rattle.proto_names.specs.Renewed.{IsTableOf}
use Rattle.proto_names_table.proofs.Common.{names_of}
use Rattle.proto_names_table.specs.declared.table.Row.{Row}
use Rattle.proto_names_table.specs.declared.table.Table.{Table}

module _ (files : List FileOf) (reads : List ReadOf) (are : AreRead files reads) (l : LinkOf) (t : Table) (rows : List (Vec ℕ)) (of : IsTableOf files reads l t rows) where
  abbrev text : At → List ℕ
  text = text_of files reads

  abbrev own : ℕ → List ℕ
  own k = get_or (map (λ v. v.items) rows) k []

  abbrev dn : ℕ → List (List (List ℕ))
  dn k = declared_names files reads k

  pub rows_listed : length rows ≡ length files
  rows_listed = sym (length-map rows (λ v. v.items)) ∙ ap length of.declared ∙ of.link.listed

  declares : (k : ℕ) → k < length files → map (name_text l) (own k) ≡ map (λ name. Some (joined name)) (dn k)
  declares k lk = ap (λ (all : List (List ℕ)). map (name_text l) (get_or all k [])) of.declared ∙ of.link.declares k lk

  -- ---- the row of a declaration

  record IsNameAt (row : ℕ) (name : List (List ℕ)) : Type 0 where
    has : NameOf
    there : name_at l row ≡ Some has
    text_is : has.text ≡ joined name

  name_there : (k j a : ℕ) → k < length files → j < length (own k) → IsNameAt (get_or (own k) j a) (get_or (dn k) j [])
  name_there k j a lk lj =
      let x = same_at (name_text l) (λ name. Some (joined name)) (own k) (dn k) (declares k lk) j a [] lj in
      let n = some_text (name_at l (get_or (own k) j a)) (joined (get_or (dn k) j [])) x.1 in
      record { has = n.0; there = n.1; text_is = n.2 }

  is_declared : (row : ℕ) (n : NameOf) → name_at l row ≡ Some n → (r : Row) → (get_or t.rows.items row r).is_declared ≡ true
  is_declared row n h r =
      let x = name_to t l of.names row n h in
      declared_from (get_or t.rows.items row r) (subst (λ (y : NameOf). 0 < length y.files) (sym (x.1 r)) (has_files l row n h))

  pub rows_bounded : All (λ v. All (λ r. r < length t.rows.items) v.items) rows
  rows_bounded k v lr j a lj =
      let own_is : own k ≡ (get_or rows k v).items = get_or-map (λ v. v.items) rows k v [] lr in
      let n = name_there k j a (omega (arith, lr, rows_listed)) (subst (λ (xs : List ℕ). j < length xs) (sym own_is) lj) in
      subst (λ (xs : List ℕ). get_or xs j a < length t.rows.items) own_is (text_to t l of.names (get_or (own k) j a) n.has n.there).0

  -- ---- where a declaration stands

  declared_in : (d : Declared At) → Contains (link_skeleton files reads).declared d → d.kind ≢ Package → RowIsDeclaredIn text t d
  declared_in d c other =
      let x = of.link.by.names.there (symbol_of text entry_name d) (contains_map (symbol_of text entry_name) (link_skeleton files reads).declared d c) in
      let n = x.1 in
      let row = text_to t l of.names x.0 n x.2 in
      let own = name_to t l of.names x.0 n x.2 in
      record {
        row = x.0;
        within = row.0;
        name = row.1 ∙ x.3;
        place = λ r.
            (let y = get_or t.rows.items x.0 r in
            ap (λ (f : ℕ). at f y.symbol.token) (sym (first_file y (is_declared x.0 n x.2 r)))
            ∙ ap (λ (z : NameOf). at (get_or z.files 0 0) z.token) (own.1 r)
            ∙ of.link.by.places d c other x.0 n x.2 x.3);
      }

  -- ---- all

  names_plain : (k : ℕ) → k < length files → All ArePlain (dn k)
  names_plain k lk j d lj =
      let s = symbol_there files reads are k j lk lj in
      subst ArePlain (s.3 ∙ get_or_default (dn k) j [] d lj) (names_are_plain files reads are s.0 s.1)

  pub table_names : AreNamesOf files reads t rows
  table_names = record {
    index = link_index t l of.names (names_of_files files reads) of.link.by.names of.link.by.names.plain;
    plain = names_plain;
    counts = λ k lk. sym (length-map (dn k) (λ name. Some (joined name))) ∙ ap length (sym (declares k lk)) ∙ length-map (own k) (name_text l);
    named = λ k j lk lj.
        (let n = name_there k j 0 lk lj in
        let next : get_or (own k) j 0 + 1 ≡ suc (get_or (own k) j 0) = omega arith in
        ap (front (names_of t)) next ∙ (text_to t l of.names (get_or (own k) j 0) n.has n.there).1 ∙ n.text_is);
    declared = λ k j r lk lj. (let n = name_there k j 0 lk lj in is_declared (get_or (own k) j 0) n.has n.there r);
    tokens = declared_in;
  }
