-- One declaration of a file more in the table (for the crates above).
use Rattle.std.proofs.Common.{◌≡◌, ℕ, ◌+◌, ◌<◌, ◌≤◌, List, [], ◌∷◌, ◌++◌, length, get_or, take, drop, refl, sym, ◌∙◌, ap, subst, inl, inr, arith, length-append, append_assoc, append-nil, length-take, length-take-le}
use Rattle.std.specs.Cow.{cow_str_bytes}
use Rattle.proto_base.proofs.Common.{cases_eq, take_more, drop_all, drop-append-le}
use Rattle.proto_names_rules.proofs.Common.{at, joined, under, front, get_front, get_last}
use Rattle.proto_names_table.specs.Common.{Spelled, Symbol as Declaration, Table, NameError, Clash, NoMemory, names_of, IsTable, SymbolIsDeclared, Named, named_in, AreSpelled, AreRowsOfNames, declaration_of, Holds, IsClashAt, IsKept, IsRowAt, IsRowOf, number_above, StopsIn}
use Rattle.proto_names_table.proofs.Held.{held_more, held_clash, row_kept}
use Rattle.proto_names_table.proofs.Naming.{named_kind, named_length, named_place, named_plain, named_text}
use Rattle.proto_names_table.proofs.Search.{pick}

pub no_rows : (t : Table) (ds : List Named) (rows : List ℕ) → rows ≡ [] → AreRowsOfNames t ds rows
no_rows t ds rows e = record { count = omega (arith, ap length e); each = λ k row d l. absurd (omega (arith, l, ap length e)) }

pub rows_within : (t : Table) (ds : List Named) (rows : List ℕ) → AreRowsOfNames t ds rows → (k row : ℕ) → k < length rows → get_or rows k row < length t.rows.items
rows_within t ds rows r k row l = let n = r.count in (r.each k row (pick ds k (omega (arith, l, n))) l).within

pub rows_kept : (old new : Table) (ds : List Named) (rows : List ℕ) → IsKept old new → AreRowsOfNames old ds rows → AreRowsOfNames new ds rows
rows_kept old new ds rows kept r = record { count = r.count; each = λ k row d l. row_kept old new (get_or ds k d) (get_or rows k row) kept (r.each k row d l) }

rows_more : (t : Table) (ds : List Named) (rows : List ℕ) (row : ℕ) → AreRowsOfNames t ds rows → length rows < length ds → ((d : Named) → IsRowAt t (get_or ds (length rows) d) row) → AreRowsOfNames t ds (rows ++ row ∷ [])
rows_more t ds rows row r l new =
    let size = length-append rows (row ∷ []) in
    record {
      count = omega (arith, size, l);
      each = λ k x d lk. elim (cases_eq k (length rows)) [
        | inl e ↦
            let here : get_or (rows ++ row ∷ []) k x ≡ row = ap (λ z. get_or (rows ++ row ∷ []) z x) e ∙ get_last rows row x in
            subst (IsRowAt t (get_or ds k d)) (sym here) (subst (λ z. IsRowAt t (get_or ds z d) row) (sym e) (new d))
        | inr ne ↦
            let lk' : k < length rows = omega (arith, lk, size, ne) in
            subst (IsRowAt t (get_or ds k d)) (sym (get_front rows (row ∷ []) k x lk')) (r.each k x d lk')
      ];
    }

-- a table keeps what is in it
pub kept_itself : (t : Table) → IsKept t t
kept_itself t = record { size = omega arith; names = λ k l. refl; symbols = λ k r l was. (refl, was); declared = λ was. was }

pub kept_both : (a b c : Table) → IsKept a b → IsKept b c → IsKept a c
kept_both a b c p q =
    let m = p.size in
    let n = q.size in
    record {
      size = omega (arith, m, n);
      names = λ k l. q.names k (omega (arith, l, m)) ∙ p.names k l;
      symbols = λ k r l was.
          (let x = p.symbols k r l was in
          let y = q.symbols k r (omega (arith, l, m)) x.1 in
          (y.0 ∙ x.0, y.1));
      declared = λ was. q.declared (p.declared was);
    }

-- none of the file's declarations from a place on, up to that place
pub segment_none : (ds own : List Named) (start k : ℕ) → k ≡ start → ds ++ drop start (take k own) ≡ ds
segment_none ds own start k e =
    let n = length-take k own in
    ap (λ z. ds ++ z) (drop_all start (take k own) (omega (arith, n, e))) ∙ append-nil ds

-- the file's declarations from a place on, and one more
segment_more : (ds own : List Named) (start k : ℕ) (d : Named) → start ≤ k → k < length own → ds ++ drop start (take (k + 1) own) ≡ (ds ++ drop start (take k own)) ++ get_or own k d ∷ []
segment_more ds own start k d s l =
    let n = length-take-le k own (omega (arith, l)) in
    ap (λ z. ds ++ z) (ap (drop start) (take_more own k d l) ∙ drop-append-le start (take k own) (get_or own k d ∷ []) (omega (arith, n, s)))
    ∙ sym (append_assoc ds (drop start (take k own)) (get_or own k d ∷ []))

-- the entry with the row that it was declared in
module _ (t t' : Table) (file : ℕ) (ss : List Spelled) (rows : List ℕ) (k : ℕ) (s : Spelled) (is : s ≡ get_or ss k s) (ok : AreSpelled ss) (l : k < length ss) (size : length rows ≡ k) (known : AreRowsOfNames t (named_in file ss) rows) where
  abbrev text : List ℕ
  text = under (front (names_of t) (number_above rows s.above)) (cow_str_bytes s.word)

  text_is : (d : Named) → text ≡ joined (get_or (named_in file ss) k d).name
  text_is d = ap (λ (z : Spelled). under (front (names_of t) (number_above rows z.above)) (cow_str_bytes z.word)) is ∙ named_text t file ss rows k s d ok known size l

  kind_is : (d : Named) → (get_or (named_in file ss) k d).kind ≡ s.kind
  kind_is d = named_kind file ss k s d ok l ∙ ap (λ z. z.kind) (sym is)

  place_is : (d : Named) → (get_or (named_in file ss) k d).place ≡ at file s.token
  place_is d = named_place file ss k s d ok l ∙ ap (λ z. at file z.token) (sym is)

  module _ (row : ℕ) (there : IsRowOf t t' text (declaration_of file s) row) where
    row_at : (d : Named) → IsRowAt t' (get_or (named_in file ss) k d) row
    row_at d = record {
      within = there.within;
      name = there.name ∙ text_is d;
      kind = λ r. elim there.new_or_package [
        | inl p ↦ ap (λ z. z.kind) (p.1 r) ∙ sym (kind_is d)
        | inr p ↦ ap (λ z. z.kind) (there.kept.symbols row r p.0 (p.3 r)).0 ∙ p.2 r ∙ sym p.1 ∙ sym (kind_is d)
      ];
      declared = there.declared;
      place = λ ne r. elim there.new_or_package [
        | inl p ↦ ap (λ (z : Declaration). at z.file z.token) (p.1 r) ∙ sym (place_is d)
        | inr p ↦ absurd (ne (kind_is d ∙ p.1))
      ];
    }

    pub rows_next : AreRowsOfNames t' (named_in file ss) (rows ++ row ∷ [])
    rows_next =
        let n = named_length file ss in
        rows_more t' (named_in file ss) rows row (rows_kept t t' (named_in file ss) rows there.kept known) (omega (arith, size, l, n)) (λ d. subst (λ z. IsRowAt t' (get_or (named_in file ss) z d) row) (sym size) (row_at d))

    pub held_next : (ds : List Named) (start : ℕ) → start ≤ k → IsTable t → IsTable t' → SymbolIsDeclared t t' text (declaration_of file s) → Holds t (ds ++ drop start (take k (named_in file ss))) → Holds t' (ds ++ drop start (take (k + 1) (named_in file ss)))
    held_next ds start lk table table' declared held =
        let n = named_length file ss in
        let l' : k < length (named_in file ss) = omega (arith, l, n) in
        let d = pick (named_in file ss) k l' in
        subst (Holds t') (sym (segment_more ds (named_in file ss) start k d lk l'))
        (held_more t t' (ds ++ drop start (take k (named_in file ss))) (get_or (named_in file ss) k d) text (declaration_of file s) row held table table' declared there
        (named_plain file ss k d ok l) (sym (text_is d)) (kind_is d) (ap (λ z. z.file) (place_is d)))

  pub stops_here : (ds : List Named) (start end : ℕ) (e : NameError) → start ≤ k → k < end → Holds t (ds ++ drop start (take k (named_in file ss))) → IsClashAt t text (declaration_of file s) e → StopsIn ds (named_in file ss) start end e
  stops_here ds start end (Clash f token) lk le held c = (
    k,
    lk,
    le,
    λ d. (
      place_is d ∙ ap (λ z. at z s.token) (sym c.0) ∙ ap (at f) (sym c.1),
      held_clash t (ds ++ drop start (take k (named_in file ss))) (get_or (named_in file ss) k d) text (declaration_of file s) held c.2 (named_plain file ss k d ok l) (sym (text_is d)) (kind_is d),
    ),
  )
  stops_here ds start end NoMemory lk le held c = tt
