-- The table keeps its rows when a symbol is declared.
use Rattle.std.proofs.Common.{◌≡◌, ◌≢◌, ℕ, true, false, ◌+◌, ◌<◌, ◌≤◌, List, [], ◌∷◌, ◌++◌, length, get_or, refl, sym, ◌∙◌, ap, inl, inr, arith, slice_set, length-append, length-set, get_or-set_same, get_or-set_other}
use Rattle.proto_base.proofs.Common.{both_ways, cases_eq, cases_lt, get_or-map, get_or_default}
use Rattle.proto_names_rules.specs.declared.kind.Kind.TheVariants.{Package}
use Rattle.proto_names_table.specs.Common.{Symbol as Declaration, Row, Table, with_declaration, names_of, IsKept, IsRowOf}
use Rattle.proto_names_rules.proofs.Forest.{get_front, get_last}
use Rattle.proto_names_table.proofs.OneRow as one
use Rattle.proto_names_table.proofs.Search.{pick}

-- rows that keep names and symbols
kept_from : (t t' : Table) → length t.rows.items ≤ length t'.rows.items
    → ((k : ℕ) (d : Row) → k < length t.rows.items → ((get_or t'.rows.items k d).name ≡ (get_or t.rows.items k d).name)
    × ((get_or t.rows.items k d).is_declared ≡ true → ((get_or t'.rows.items k d).symbol ≡ (get_or t.rows.items k d).symbol) × ((get_or t'.rows.items k d).is_declared ≡ true)))
    → ((k : ℕ) (d : Row) → length t.rows.items ≤ k → k < length t'.rows.items → (get_or t'.rows.items k d).is_declared ≡ true) → IsKept t t'
kept_from t t' more same new = record {
  size = more;
  names = λ k l.
      let d = pick t.rows.items k l in
      get_or-map (λ z. z.name) t'.rows.items k d [] (omega (arith, l, more)) ∙ (same k d l).0 ∙ sym (get_or-map (λ z. z.name) t.rows.items k d [] l);
  symbols = λ k d l. (same k d l).1;
  declared = λ was k d l. elim (cases_lt k (length t.rows.items)) [
    | inl lt ↦ ((same k d lt).1 (was k d lt)).1
    | inr le ↦ new k d le l
  ];
}

pub row_added : (t t' : Table) (r : Row) (text : List ℕ) (symbol : Declaration) → t'.rows.items ≡ t.rows.items ++ r ∷ [] → r.name ≡ text → r.symbol ≡ symbol → r.is_declared ≡ true → IsRowOf t t' text symbol (length t.rows.items)
row_added t t' r text symbol rows name e alive =
    let size : length t'.rows.items ≡ length t.rows.items + 1 = ap length rows ∙ length-append t.rows.items (r ∷ []) in
    let last = λ (d : Row). ap (λ z. get_or z (length t.rows.items) d) rows ∙ get_last t.rows.items r d in
    let front = λ (k : ℕ) (d : Row) (l : k < length t.rows.items). ap (λ z. get_or z k d) rows ∙ get_front t.rows.items (r ∷ []) k d l in
    record {
      kept = kept_from t t' (omega (arith, size)) (λ k d l. (ap (λ z. z.name) (front k d l), λ was. (ap (λ z. z.symbol) (front k d l), ap (λ z. z.is_declared) (front k d l) ∙ was)))
          (λ k d le l. let e : k ≡ length t.rows.items = omega (arith, le, l, size) in ap (λ i. (get_or t'.rows.items i d).is_declared) e ∙ ap (λ z. z.is_declared) (last d) ∙ alive);
      within = omega (arith, size);
      name = get_or-map (λ z. z.name) t'.rows.items (length t.rows.items) r [] (omega (arith, size)) ∙ ap (λ z. z.name) (last r) ∙ name;
      declared = λ d. ap (λ z. z.is_declared) (last d) ∙ alive;
      new_or_package = inl (λ l d. absurd (omega (arith, l)), λ d. ap (λ z. z.symbol) (last d) ∙ e);
    }

pub row_again : (t t' : Table) (k : ℕ) (r r' : Row) (text : List ℕ) (symbol : Declaration) → k < length t.rows.items → r ≡ get_or t.rows.items k r → t'.rows.items ≡ slice_set t.rows.items k r' → r'.name ≡ r.name → r'.symbol ≡ r.symbol → r.is_declared ≡ true → r'.is_declared ≡ true
    → get_or (names_of t) k [] ≡ text → symbol.kind ≡ Package → r.symbol.kind ≡ Package → IsRowOf t t' text symbol k
row_again t t' k r r' text symbol l is rows name same was alive named is_package_too own =
    let size : length t'.rows.items ≡ length t.rows.items = ap length rows ∙ length-set t.rows.items k r' in
    let at = λ (d : Row). get_or_default t.rows.items k d r l ∙ sym is in
    let here = λ (d : Row). ap (λ z. get_or z k d) rows ∙ get_or-set_same t.rows.items k r' d l in
    let there = λ (j : ℕ) (d : Row) (ne : j ≢ k). ap (λ z. get_or z j d) rows ∙ get_or-set_other t.rows.items k j r' d ne in
    let kept = kept_from t t' (omega (arith, size)) (λ j d lj. elim (cases_eq j k) [
      | inl e ↦
          let now' : get_or t'.rows.items j d ≡ r' = ap (λ i. get_or t'.rows.items i d) e ∙ here d in
          let then' : get_or t.rows.items j d ≡ r = ap (λ i. get_or t.rows.items i d) e ∙ at d in
          (ap (λ z. z.name) now' ∙ name ∙ ap (λ z. z.name) (sym then'), λ _. (ap (λ z. z.symbol) now' ∙ same ∙ ap (λ z. z.symbol) (sym then'), ap (λ z. z.is_declared) now' ∙ alive))
      | inr ne ↦ (ap (λ z. z.name) (there j d ne), λ h. (ap (λ z. z.symbol) (there j d ne), ap (λ z. z.is_declared) (there j d ne) ∙ h))
    ]) (λ j d le lj. absurd (omega (arith, le, lj, size))) in
    record {
      kept = kept;
      within = omega (arith, l, size);
      name = kept.names k l ∙ named;
      declared = λ d. ap (λ z. z.is_declared) (here d) ∙ alive;
      new_or_package = inr (l, is_package_too, λ d. ap (λ z. z.symbol.kind) (at d) ∙ own, λ d. ap (λ z. z.is_declared) (at d) ∙ was);
    }

pub row_revived : (t t' : Table) (k : ℕ) (r : Row) (symbol : Declaration) → k < length t.rows.items → r ≡ get_or t.rows.items k r → t'.rows.items ≡ slice_set t.rows.items k (with_declaration symbol true r) → t'.below ≡ t.below → r.is_declared ≡ false
    → IsRowOf t t' (get_or (names_of t) k []) symbol k
row_revived t t' k r symbol l is rows below dead =
    let r' = with_declaration symbol true r in
    let at = one.at t t' k r r' l is rows below refl refl in
    let here = one.here t t' k r r' l is rows below refl refl in
    let there = one.there t t' k r r' l is rows below refl refl in
    let size = one.size_same t t' k r r' l is rows below refl refl in
    record {
      kept = kept_from t t' (omega (arith, size)) (λ j d lj. elim (cases_eq j k) [
        | inl e ↦
            let now' : get_or t'.rows.items j d ≡ r' = ap (λ i. get_or t'.rows.items i d) e ∙ here d in
            let then' : get_or t.rows.items j d ≡ r = ap (λ i. get_or t.rows.items i d) e ∙ at d in
            (ap (λ z. z.name) now' ∙ ap (λ z. z.name) (sym then'), λ h. absurd (both_ways r.is_declared dead (ap (λ z. z.is_declared) (sym then') ∙ h)))
        | inr ne ↦ (ap (λ z. z.name) (there j d ne), λ h. (ap (λ z. z.symbol) (there j d ne), ap (λ z. z.is_declared) (there j d ne) ∙ h))
      ]) (λ j d le lj. absurd (omega (arith, le, lj, size)));
      within = omega (arith, l, size);
      name = ap (λ z. get_or z k []) (one.names_same t t' k r r' l is rows below refl refl);
      declared = λ d. ap (λ z. z.is_declared) (here d);
      new_or_package = inl (λ _ d. ap (λ z. z.is_declared) (at d) ∙ dead, λ d. ap (λ z. z.symbol) (here d));
    }
