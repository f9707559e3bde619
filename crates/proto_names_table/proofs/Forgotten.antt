-- A row that is declared no more, and one that is declared again.
use Rattle.std.proofs.Common.{◌≡◌, ◌≢◌, ℕ, ◌<◌, Bool, true, false, cond, List, [], ◌∷◌, ◌++◌, length, get_or, slice_set, refl, sym, ◌∙◌, ap, subst, inl, inr, arith, Contains}
use Rattle.proto_base.proofs.Common.{cases_eq, length-map, contains_head, Contains-append_cases, Contains-append_left, Contains-append_right}
use Rattle.proto_names_rules.specs.Forest.{front}
use Rattle.proto_names_rules.proofs.Common.{Symbol, joined, ArePlain, names_apart}
use Rattle.proto_names_table.specs.Common.{Symbol as Declaration, Row, Table, IsTable, SymbolIsDeclared, IsIndexOf, IsWithout, aboves_of, with_declaration, files_of, look, names_of}
use Rattle.proto_names_table.proofs.Indexed.{last_only}
use Rattle.proto_names_table.proofs.OneRow as one

module _ (t t' : Table) (k : ℕ) (r : Row) (symbol : Declaration) (flag : Bool) (l : k < length t.rows.items) (is : r ≡ get_or t.rows.items k r) (rows : t'.rows.items ≡ slice_set t.rows.items k (with_declaration symbol flag r)) (below : t'.below ≡ t.below) (ok : IsTable t) where
  abbrev r' : Row
  r' = with_declaration symbol flag r

  abbrev at : (d : Row) → get_or t.rows.items k d ≡ r
  at = one.at t t' k r r' l is rows below refl refl

  abbrev size_same : length t'.rows.items ≡ length t.rows.items
  size_same = one.size_same t t' k r r' l is rows below refl refl

  abbrev here : (d : Row) → get_or t'.rows.items k d ≡ r'
  here = one.here t t' k r r' l is rows below refl refl

  abbrev there : (j : ℕ) (d : Row) → j ≢ k → get_or t'.rows.items j d ≡ get_or t.rows.items j d
  there = one.there t t' k r r' l is rows below refl refl

  name_same : (j : ℕ) → get_or (names_of t') j [] ≡ get_or (names_of t) j []
  name_same j = ap (λ z. get_or z j []) (one.names_same t t' k r r' l is rows below refl refl)

  -- a row of another name is kept
  kept_row : (j : ℕ) (x : Symbol) → j ≢ k → ((d : Row) → ((get_or t.rows.items j d).symbol.kind ≡ x.kind) × Contains (files_of (get_or t.rows.items j d)) x.file)
      → (d : Row) → ((get_or t'.rows.items j d).symbol.kind ≡ x.kind) × Contains (files_of (get_or t'.rows.items j d)) x.file
  kept_row j x ne h d = (ap (λ z. z.symbol.kind) (there j d ne) ∙ (h d).0, subst (λ z. Contains (files_of z) x.file) (sym (there j d ne)) (h d).1)

  pub index_forgot : flag ≡ false → (old rest : List Symbol) → IsIndexOf t old → IsWithout (get_or (names_of t) k []) old rest → IsIndexOf t' rest
  index_forgot dead old rest index without = record {
    plain = λ x c. index.plain x ((without x).0 c).0;
    row = λ x c.
        (let w = (without x).0 c in
        let o = index.row x w.0 in
        let ne : o.0 ≢ k = λ e. w.1 (sym o.2 ∙ ap (λ i. get_or (names_of t) i []) e) in
        (o.0, omega (arith, o.1, size_same), name_same o.0 ∙ o.2, kept_row o.0 x ne o.3));
    symbol = λ j f d lj c. elim (cases_eq j k) [
      | inl e ↦
          let files : files_of (get_or t'.rows.items j d) ≡ [] = ap (λ i. files_of (get_or t'.rows.items i d)) e ∙ ap files_of (here d) ∙ ap (λ b. cond b (symbol.file ∷ r.more.items) []) dead in
          absurd (omega (arith, (subst (λ z. Contains z f) files c).1))
      | inr ne ↦
          let lj' : j < length t.rows.items = omega (arith, lj, size_same) in
          let o = index.symbol j f d lj' (subst (λ z. Contains (files_of z) f) (there j d ne) c) in
          let n = length-map t.rows.items (λ z. z.name) in
          let apart : joined o.0.name ≢ get_or (names_of t) k [] = λ e. ne (names_apart (names_of t) (aboves_of t) (look t) ok.forest j k (omega (arith, lj', n)) (omega (arith, l, n)) (sym o.2 ∙ e)) in
          (o.0, (without o.0).1 (o.1, apart), o.2 ∙ sym (name_same j), o.3 ∙ ap (λ z. z.symbol.kind) (sym (there j d ne)), o.4)
    ];
  }

  -- of a row that no file declares
  module _ (dead : r.is_declared ≡ false) (alive : flag ≡ true) (alone : r.more.items ≡ []) where
    files_now : files_of r' ≡ symbol.file ∷ []
    files_now = ap (λ b. cond b (symbol.file ∷ r.more.items) []) alive ∙ ap (λ z. symbol.file ∷ z) alone

    index_revived : (old : List Symbol) (s : Symbol) → IsIndexOf t old → ArePlain s.name → joined s.name ≡ get_or (names_of t) k [] → s.kind ≡ symbol.kind → s.file ≡ symbol.file → IsIndexOf t' (old ++ s ∷ [])
    index_revived old s index plain joins kind file = record {
      plain = λ x c. elim (Contains-append_cases old (s ∷ []) x c) [ inl a ↦ index.plain x a | inr b ↦ subst (λ z. ArePlain z.name) (last_only s x b) plain ];
      row = λ x c. elim (Contains-append_cases old (s ∷ []) x c) [
        | inl a ↦
            let o = index.row x a in
            let was : files_of (get_or t.rows.items k r) ≡ [] = ap files_of (at r) ∙ ap (λ b. cond b (r.symbol.file ∷ r.more.items) []) dead in
            let ne : o.0 ≢ k = λ e. omega (arith, (subst (λ z. Contains z x.file) was (subst (λ i. Contains (files_of (get_or t.rows.items i r)) x.file) e (o.3 r).1)).1) in
            (o.0, omega (arith, o.1, size_same), name_same o.0 ∙ o.2, kept_row o.0 x ne o.3)
        | inr b ↦
            let e = last_only s x b in (
              k,
              omega (arith, l, size_same),
              name_same k ∙ sym joins ∙ ap (λ z. joined z.name) e,
              λ d. (
                ap (λ z. z.symbol.kind) (here d) ∙ sym kind ∙ ap (λ z. z.kind) e,
                subst (λ z. Contains z x.file) (sym (ap files_of (here d) ∙ files_now)) (subst (λ z. Contains (symbol.file ∷ []) z) (sym file ∙ ap (λ z. z.file) e) (contains_head symbol.file [])),
              ),
            )
      ];
      symbol = λ j f d lj c. elim (cases_eq j k) [
        | inl e ↦
            let own : Contains (symbol.file ∷ []) f = subst (λ z. Contains z f) (ap (λ i. files_of (get_or t'.rows.items i d)) e ∙ ap files_of (here d) ∙ files_now) c in
            (s, Contains-append_right old (s ∷ []) s (contains_head s []), joins ∙ sym (name_same k) ∙ ap (λ i. get_or (names_of t') i []) (sym e), kind ∙ ap (λ z. z.symbol.kind) (sym (here d)) ∙ ap (λ i. (get_or t'.rows.items i d).symbol.kind) (sym e), file ∙ last_only symbol.file f own)
        | inr ne ↦
            let o = index.symbol j f d (omega (arith, lj, size_same)) (subst (λ z. Contains (files_of z) f) (there j d ne) c) in
            (o.0, Contains-append_left old (s ∷ []) o.0 o.1, o.2 ∙ sym (name_same j), o.3 ∙ ap (λ z. z.symbol.kind) (sym (there j d ne)), o.4)
      ];
    }

    pub declared_revived : SymbolIsDeclared t t' (get_or (names_of t) k []) symbol
    declared_revived = record {
      fronts = λ n ln. ap (λ z. front z n) (one.names_same t t' k r r' l is rows below refl refl);
      named = (k, omega (arith, l, size_same), name_same k);
      index = λ ss s i p j q f. index_revived ss s i p j q f;
    }
