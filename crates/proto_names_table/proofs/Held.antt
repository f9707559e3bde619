-- The table holds a declaration more, or one that it holds has the name (for the crates above).
use Rattle.std.proofs.Common.{◌≡◌, ℕ, ◌<◌, ◌&&◌, Bool, true, cond, List, [], ◌∷◌, ◌++◌, length, get_or, map, sym, ◌∙◌, ap, subst, inl, inr, arith, length-append, Contains}
use Rattle.proto_base.proofs.Common.{cases_eq, both_ways, length-map, map-append, contains_head, contains_map, from_map}
use Rattle.proto_names_rules.specs.declared.kind.Kind.TheVariants.{Package}
use Rattle.proto_names_rules.proofs.Common.{Symbol, at, is_package, joined, ArePlain, get_front, get_last, names_apart, joined_apart}
use Rattle.proto_names_table.specs.Common.{Symbol as Declaration, Table, files_of, names_of, aboves_of, look, IsTable, SymbolIsDeclared, IsIndexOf, IsTaken, Named, symbol_named, AreNamesApart, Clashes, Holds, IsKept, IsRowAt, IsRowOf}
use Rattle.proto_names_table.proofs.Naming.{contains_at}
use Rattle.proto_names_table.proofs.Search.{pick}

-- the index is one of the same symbols in any order
pub index_same : (t : Table) (ss ts : List Symbol) → ((s : Symbol) → Contains ss s → Contains ts s) → ((s : Symbol) → Contains ts s → Contains ss s) → IsIndexOf t ss → IsIndexOf t ts
index_same t ss ts to from index = record {
  plain = λ s c. index.plain s (from s c);
  row = λ s c. index.row s (from s c);
  symbol = λ k file d l c. let r = index.symbol k file d l c in (r.0, to r.0 r.1, r.2, r.3, r.4);
}

apart_more : (ds : List Named) (d : Named) → AreNamesApart ds → ((x : Named) → Contains ds x → x.name ≡ d.name → (x.kind ≡ Package) × (d.kind ≡ Package)) → AreNamesApart (ds ++ d ∷ [])
apart_more ds d apart new i j e l lj same =
    let size = length-append ds (d ∷ []) in
    let fi : get_or (ds ++ d ∷ []) i e ≡ get_or ds i e = get_front ds (d ∷ []) i e (omega (arith, l, lj, size)) in
    elim (cases_eq j (length ds)) [
      | inl q ↦
          let fj : get_or (ds ++ d ∷ []) j e ≡ d = ap (λ z. get_or (ds ++ d ∷ []) z e) q ∙ get_last ds d e in
          let r = new (get_or ds i e) (contains_at ds i e (omega (arith, l, q))) (ap (λ z. z.name) (sym fi) ∙ same ∙ ap (λ z. z.name) fj) in
          (ap (λ z. z.kind) fi ∙ r.0, ap (λ z. z.kind) fj ∙ r.1)
      | inr ne ↦
          let lj' : j < length ds = omega (arith, lj, size, ne) in
          let fj : get_or (ds ++ d ∷ []) j e ≡ get_or ds j e = get_front ds (d ∷ []) j e lj' in
          let r = apart i j e l lj' (ap (λ z. z.name) (sym fi) ∙ same ∙ ap (λ z. z.name) fj) in
          (ap (λ z. z.kind) fi ∙ r.0, ap (λ z. z.kind) fj ∙ r.1)
    ]

module _ (old new : Table) (ds : List Named) (d : Named) (text : List ℕ) (symbol : Declaration) (row : ℕ) (held : Holds old ds) (ok : IsTable old) (ok' : IsTable new)
    (declared : SymbolIsDeclared old new text symbol) (there : IsRowOf old new text symbol row) (plain : ArePlain d.name) (name : joined d.name ≡ text) (kind : d.kind ≡ symbol.kind) (file : d.place.file ≡ symbol.file) where
  -- a name that is there is a package's, and stays one
  fresh : (x : Named) → Contains ds x → x.name ≡ d.name → (x.kind ≡ Package) × (d.kind ≡ Package)
  fresh x c same =
      let r = held.index.row (symbol_named x) (contains_map symbol_named ds x c) in
      let n' = length-map new.rows.items (λ z. z.name) in
      let size = there.kept.size in
      let k : get_or (names_of new) r.0 [] ≡ text = there.kept.names r.0 r.1 ∙ r.2 ∙ ap joined same ∙ name in
      let w = there.within in
      let one : r.0 ≡ row = names_apart (names_of new) (aboves_of new) (look new) ok'.forest r.0 row (omega (arith, r.1, size, n')) (omega (arith, w, n')) (k ∙ sym there.name) in
      elim there.new_or_package [
        | inl p ↦
            let z = pick old.rows.items r.0 r.1 in
            let own = get_or old.rows.items row z in
            let none : files_of own ≡ [] = ap (λ b. cond b (own.symbol.file ∷ own.more.items) []) (p.0 (omega (arith, r.1, one)) z) in
            absurd (omega (arith, (subst (λ fs. Contains fs x.place.file) none (subst (λ i. Contains (files_of (get_or old.rows.items i z)) x.place.file) one (r.3 z).1)).1))
        | inr p ↦
            let z = pick old.rows.items r.0 r.1 in
            (sym (r.3 z).0 ∙ ap (λ i. (get_or old.rows.items i z).symbol.kind) one ∙ p.2 z, kind ∙ p.1)
      ]

  pub held_more : Holds new (ds ++ d ∷ [])
  held_more = record {
    index = subst (IsIndexOf new) (sym (map-append symbol_named ds (d ∷ []))) (declared.index (map symbol_named ds) (symbol_named d) held.index plain name kind file);
    apart = apart_more ds d held.apart fresh;
  }

-- the name is that of one that is held
pub held_clash : (t : Table) (ds : List Named) (d : Named) (text : List ℕ) (symbol : Declaration) → Holds t ds → IsTaken t text symbol → ArePlain d.name → joined d.name ≡ text → d.kind ≡ symbol.kind → Clashes ds d
held_clash t ds d text symbol held taken plain name kind =
    let z = pick t.rows.items taken.row taken.within in
    let r = held.index.symbol taken.row (get_or t.rows.items taken.row z).symbol.file z taken.within
    (subst (λ fs. Contains fs (get_or t.rows.items taken.row z).symbol.file)
    (sym (ap (λ b. cond b ((get_or t.rows.items taken.row z).symbol.file ∷ (get_or t.rows.items taken.row z).more.items) []) (taken.declared z)))
    (contains_head (get_or t.rows.items taken.row z).symbol.file (get_or t.rows.items taken.row z).more.items)) in
    let x = from_map symbol_named ds r.0 r.1 in
    record {
      apart = held.apart;
      other = x.0;
      within = x.1;
      name = joined_apart x.0.name d.name (held.index.plain (symbol_named x.0) (contains_map symbol_named ds x.0 x.1)) plain (ap (λ y. joined y.name) x.2 ∙ r.2 ∙ taken.name ∙ sym name);
      not_packages = λ e f. both_ways (is_package symbol.kind && is_package (get_or t.rows.items taken.row z).symbol.kind) (taken.apart z)
          (both (is_package symbol.kind) (is_package (get_or t.rows.items taken.row z).symbol.kind) (ap is_package (sym kind ∙ e)) (ap is_package (sym r.3 ∙ sym (ap (λ y. y.kind) x.2) ∙ f)));
    }
  where
    both : (a b : Bool) → a ≡ true → b ≡ true → (a && b) ≡ true
    both a b p q = ap (λ z. z && b) p ∙ q

-- ---- rows

pub row_kept : (old new : Table) (d : Named) (row : ℕ) → IsKept old new → IsRowAt old d row → IsRowAt new d row
row_kept old new d row kept r =
    let w = r.within in
    let size = kept.size in
    record {
      within = omega (arith, w, size);
      name = kept.names row r.within ∙ r.name;
      kind = λ z. ap (λ y. y.kind) (kept.symbols row z r.within (r.declared z)).0 ∙ r.kind z;
      declared = λ z. (kept.symbols row z r.within (r.declared z)).1;
      place = λ ne z. ap (λ (y : Declaration). at y.file y.token) (kept.symbols row z r.within (r.declared z)).0 ∙ r.place ne z;
    }
