-- A table with a symbol more is the index of the symbols with it.
use Rattle.std.proofs.Common.{◌≡◌, ◌≢◌, ℕ, zero, suc, ◌+◌, ◌<◌, ◌≤◌, true, cond, List, [], ◌∷◌, ◌++◌, length, get_or, map, refl, sym, ◌∙◌, ap, subst, inl, inr, arith, slice_set, length-append}
use Rattle.std.specs.List.{Contains}
use Rattle.std.proofs.lemmas.Bool.{cases_eq}
use Rattle.std.proofs.lemmas.List.{length-map}
use Rattle.std.proofs.lemmas.List.Elements.{Contains-append_left, Contains-append_right, Contains-append_cases}
use Rattle.proto_names_rules.specs.Names.{Symbol}
use Rattle.proto_names_rules.specs.Joined.{joined, ArePlain}
use Rattle.proto_names_rules.specs.Forest.{front}
use Rattle.proto_names_table.specs.declared.table.Symbol.{Symbol as Declaration}
use Rattle.proto_names_table.specs.declared.table.Row.{Row}
use Rattle.proto_names_table.specs.declared.table.Table.{Table}
use Rattle.proto_names_table.specs.Tables.{files_of, names_of}
use Rattle.proto_names_table.specs.Resolved.{IsIndexOf, SymbolIsDeclared}
use Rattle.proto_names_table.proofs.OneRow as one
use Rattle.proto_base.proofs.Lists.{contains_head, contains_cases}
use Rattle.proto_names_rules.proofs.Edited.{map_append}
use Rattle.proto_names_rules.proofs.Forest.{get_front, get_last}

pub last_only : {X : Type 0} (x y : X) → Contains (x ∷ []) y → x ≡ y
last_only x y c = elim (contains_cases x y [] c) [ inl e ↦ e | inr n ↦ absurd (omega (arith, n.1)) ]

module _ (t t' : Table) (r : Row) (text : List ℕ) (rows : t'.rows.items ≡ t.rows.items ++ r ∷ []) (name : r.name ≡ text) (fresh : r.more.items ≡ []) (declared : r.is_declared ≡ true) where
  size : length t'.rows.items ≡ length t.rows.items + 1
  size = ap length rows ∙ length-append t.rows.items (r ∷ [])

  names_more : names_of t' ≡ names_of t ++ text ∷ []
  names_more = ap (map (λ z. z.name)) rows ∙ map_append (λ z. z.name) t.rows.items (r ∷ []) ∙ ap (λ z. names_of t ++ z ∷ []) name

  named : length (names_of t) ≡ length t.rows.items
  named = length-map t.rows.items (λ z. z.name)

  pub name_kept : (k : ℕ) → k < length t.rows.items → get_or (names_of t') k [] ≡ get_or (names_of t) k []
  name_kept k l = ap (λ z. get_or z k []) names_more ∙ get_front (names_of t) (text ∷ []) k [] (omega (arith, l, named))

  pub name_last : get_or (names_of t') (length t.rows.items) [] ≡ text
  name_last = ap (λ z. get_or z (length t.rows.items) []) names_more ∙ ap (λ i. get_or (names_of t ++ text ∷ []) i []) (sym named) ∙ get_last (names_of t) text []

  row_kept : (k : ℕ) (d : Row) → k < length t.rows.items → get_or t'.rows.items k d ≡ get_or t.rows.items k d
  row_kept k d l = ap (λ z. get_or z k d) rows ∙ get_front t.rows.items (r ∷ []) k d l

  row_last : (d : Row) → get_or t'.rows.items (length t.rows.items) d ≡ r
  row_last d = ap (λ z. get_or z (length t.rows.items) d) rows ∙ get_last t.rows.items r d

  files_are : files_of r ≡ r.symbol.file ∷ []
  files_are = ap (λ b. cond b (r.symbol.file ∷ r.more.items) []) declared ∙ ap (λ z. r.symbol.file ∷ z) fresh

  pub index_added : (ss : List Symbol) (s : Symbol) → IsIndexOf t ss → ArePlain s.name → joined s.name ≡ text → s.kind ≡ r.symbol.kind → s.file ≡ r.symbol.file → IsIndexOf t' (ss ++ s ∷ [])
  index_added ss s index plain joins kind file = record {
    plain = λ x c. elim (Contains-append_cases ss (s ∷ []) x c) [ inl a ↦ index.plain x a | inr b ↦ subst (λ z. ArePlain z.name) (last_only s x b) plain ];
    row = λ x c. elim (Contains-append_cases ss (s ∷ []) x c) [
      | inl a ↦
          let o = index.row x a in
          (o.0, omega (arith, o.1, size), name_kept o.0 o.1 ∙ o.2, λ d. (ap (λ z. z.symbol.kind) (row_kept o.0 d o.1) ∙ (o.3 d).0, subst (λ z. Contains (files_of z) x.file) (sym (row_kept o.0 d o.1)) (o.3 d).1))
      | inr b ↦
          let e = last_only s x b in (
            length t.rows.items,
            omega (arith, size),
            name_last ∙ sym joins ∙ ap (λ z. joined z.name) e,
            λ d. (ap (λ z. z.symbol.kind) (row_last d) ∙ sym kind ∙ ap (λ z. z.kind) e, subst (λ z. Contains (files_of z) x.file) (sym (row_last d)) (subst (λ z. Contains (files_of r) z) (sym file ∙ ap (λ z. z.file) e) (subst (λ z. Contains z r.symbol.file) (sym files_are) (contains_head r.symbol.file [])))),
          )
    ];
    symbol = λ k f d l c. elim (cases_eq k (length t.rows.items)) [
      | inr ne ↦
          let lk : k < length t.rows.items = omega (arith, l, size, ne) in
          let o = index.symbol k f d lk (subst (λ z. Contains (files_of z) f) (row_kept k d lk) c) in
          (o.0, Contains-append_left ss (s ∷ []) o.0 o.1, o.2 ∙ sym (name_kept k lk), o.3 ∙ ap (λ z. z.symbol.kind) (sym (row_kept k d lk)), o.4)
      | inl e ↦
          let at : get_or t'.rows.items k d ≡ r = ap (λ i. get_or t'.rows.items i d) e ∙ row_last d in
          let only : Contains (r.symbol.file ∷ []) f = subst (λ z. Contains z f) files_are (subst (λ z. Contains (files_of z) f) at c) in (
            s,
            Contains-append_right ss (s ∷ []) s (contains_head s []),
            joins ∙ sym name_last ∙ ap (λ i. get_or (names_of t') i []) (sym e),
            kind ∙ ap (λ z. z.symbol.kind) (sym at),
            file ∙ last_only r.symbol.file f only,
          )
    ];
  }

  pub declared_new : (symbol : Declaration) → r.symbol ≡ symbol → SymbolIsDeclared t t' text symbol
  declared_new symbol e = record {
    fronts = fronts';
    named = (length t.rows.items, omega (arith, size), name_last);
    index = λ ss s i p j k f. index_added ss s i p j (k ∙ ap (λ z. z.kind) (sym e)) (f ∙ ap (λ z. z.file) (sym e));
  }
    where
      fronts' : (n : ℕ) → n ≤ length t.rows.items → front (names_of t') n ≡ front (names_of t) n
      fronts' zero l = refl
      fronts' (suc k) l = name_kept k (omega (arith, l))

module _ (t t' : Table) (k : ℕ) (r r' : Row) (file : ℕ) (l : k < length t.rows.items) (is : r ≡ get_or t.rows.items k r) (rows : t'.rows.items ≡ slice_set t.rows.items k r') (below : t'.below ≡ t.below)
    (name : r'.name ≡ r.name) (symbol : r'.symbol ≡ r.symbol) (above : r'.above ≡ r.above) (more : r'.more.items ≡ r.more.items ++ file ∷ [])
    (declared : r.is_declared ≡ true) (now_declared : r'.is_declared ≡ true) where
  abbrev at : (d : Row) → get_or t.rows.items k d ≡ r
  at = one.at t t' k r r' l is rows below name above

  abbrev names_same : names_of t' ≡ names_of t
  names_same = one.names_same t t' k r r' l is rows below name above

  abbrev size_same : length t'.rows.items ≡ length t.rows.items
  size_same = one.size_same t t' k r r' l is rows below name above

  abbrev here : (d : Row) → get_or t'.rows.items k d ≡ r'
  here = one.here t t' k r r' l is rows below name above

  abbrev there : (j : ℕ) (d : Row) → j ≢ k → get_or t'.rows.items j d ≡ get_or t.rows.items j d
  there = one.there t t' k r r' l is rows below name above

  files : files_of r' ≡ files_of r ++ file ∷ []
  files =
      ap (λ b. cond b (r'.symbol.file ∷ r'.more.items) []) now_declared
      ∙ ap (λ z. z.file ∷ r'.more.items) symbol
      ∙ ap (λ z. r.symbol.file ∷ z) more
      ∙ sym (ap (λ b. cond b (r.symbol.file ∷ r.more.items) [] ++ file ∷ []) declared)

  pub index_file : (ss : List Symbol) (s : Symbol) → IsIndexOf t ss → ArePlain s.name → joined s.name ≡ get_or (names_of t) k [] → s.kind ≡ r.symbol.kind → s.file ≡ file → IsIndexOf t' (ss ++ s ∷ [])
  index_file ss s index plain joins kind same = record {
    plain = λ x c. elim (Contains-append_cases ss (s ∷ []) x c) [ inl a ↦ index.plain x a | inr b ↦ subst (λ z. ArePlain z.name) (last_only s x b) plain ];
    row = λ x c. elim (Contains-append_cases ss (s ∷ []) x c) [
      | inl a ↦
          let o = index.row x a in
          (o.0, omega (arith, o.1, size_same), ap (λ z. get_or z o.0 []) names_same ∙ o.2, λ d. old o.0 d x (o.3 d))
      | inr b ↦
          let e = last_only s x b in (
            k,
            omega (arith, l, size_same),
            ap (λ z. get_or z k []) names_same ∙ sym joins ∙ ap (λ z. joined z.name) e,
            λ d. (
              ap (λ z. z.symbol.kind) (here d) ∙ ap (λ z. z.kind) symbol ∙ sym kind ∙ ap (λ z. z.kind) e,
              subst (λ z. Contains (files_of z) x.file) (sym (here d)) (subst (λ z. Contains z x.file) (sym files) (Contains-append_right (files_of r) (file ∷ []) x.file (subst (λ z. Contains (file ∷ []) z) (sym same ∙ ap (λ z. z.file) e) (contains_head file [])))),
            ),
          )
    ];
    symbol = λ j f d lj c. elim (cases_eq j k) [
      | inr ne ↦
          let o = index.symbol j f d (omega (arith, lj, size_same)) (subst (λ z. Contains (files_of z) f) (there j d ne) c) in
          (o.0, Contains-append_left ss (s ∷ []) o.0 o.1, o.2 ∙ ap (λ z. get_or z j []) (sym names_same), o.3 ∙ ap (λ z. z.symbol.kind) (sym (there j d ne)), o.4)
      | inl e ↦
          let c' : Contains (files_of r ++ file ∷ []) f = subst (λ z. Contains z f) files (subst (λ z. Contains (files_of z) f) (ap (λ i. get_or t'.rows.items i d) e ∙ here d) c) in
          let kind' : r.symbol.kind ≡ (get_or t'.rows.items j d).symbol.kind = sym (ap (λ z. z.kind) symbol) ∙ ap (λ z. z.symbol.kind) (sym (ap (λ i. get_or t'.rows.items i d) e ∙ here d)) in
          let named : get_or (names_of t) k [] ≡ get_or (names_of t') j [] = ap (λ z. get_or z k []) (sym names_same) ∙ ap (λ i. get_or (names_of t') i []) (sym e) in
          elim (Contains-append_cases (files_of r) (file ∷ []) f c') [
            | inl a ↦
                let o = index.symbol k f d l (subst (λ z. Contains (files_of z) f) (sym (at d)) a) in
                (o.0, Contains-append_left ss (s ∷ []) o.0 o.1, o.2 ∙ named, o.3 ∙ ap (λ z. z.symbol.kind) (at d) ∙ kind', o.4)
            | inr b ↦ (s, Contains-append_right ss (s ∷ []) s (contains_head s []), joins ∙ named, kind ∙ kind', same ∙ last_only file f b)
          ]
    ];
  }
    where
      old : (j : ℕ) (d : Row) (x : Symbol) → ((get_or t.rows.items j d).symbol.kind ≡ x.kind) × Contains (files_of (get_or t.rows.items j d)) x.file → ((get_or t'.rows.items j d).symbol.kind ≡ x.kind) × Contains (files_of (get_or t'.rows.items j d)) x.file
      old j d x o = elim (cases_eq j k) [
        | inr ne ↦ (ap (λ z. z.symbol.kind) (there j d ne) ∙ o.0, subst (λ z. Contains (files_of z) x.file) (sym (there j d ne)) o.1)
        | inl e ↦
            let now' : get_or t'.rows.items j d ≡ r' = ap (λ i. get_or t'.rows.items i d) e ∙ here d in
            let was : get_or t.rows.items j d ≡ r = ap (λ i. get_or t.rows.items i d) e ∙ at d in (
              ap (λ z. z.symbol.kind) now' ∙ ap (λ z. z.kind) symbol ∙ ap (λ z. z.symbol.kind) (sym was) ∙ o.0,
              subst (λ z. Contains (files_of z) x.file) (sym now') (subst (λ z. Contains z x.file) (sym files) (Contains-append_left (files_of r) (file ∷ []) x.file (subst (λ z. Contains (files_of z) x.file) was o.1))),
            )
      ]

  pub declared_again : (text : List ℕ) (d : Declaration) → get_or (names_of t) k [] ≡ text → d.kind ≡ r.symbol.kind → d.file ≡ file → SymbolIsDeclared t t' text d
  declared_again text d name' kinds place = record {
    fronts = λ n ln. ap (λ z. front z n) names_same;
    named = (k, omega (arith, l, size_same), ap (λ z. get_or z k []) names_same ∙ name');
    index = λ ss s i p j q f. index_file ss s i p (j ∙ sym name') (q ∙ kinds) (f ∙ place);
  }
