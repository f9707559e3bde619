-- Without faults of names and references a workspace is linked, and the other way round (for the crates above).
use Rattle.std.proofs.Common.{◌≡◌, ◌≢◌, ◌⊎◌, ℕ, ◌<◌, true, List, [], length, get_or, refl, sym, ◌∙◌, ap, inl, inr, arith, true≢false}
use Rattle.proto_base.proofs.Common.{cases_Bool, both_ways, get_or-map, length-map, Contains-get_or, contains_map, from_map}
use Rattle.proto_names_rules.specs.Common.{Kind, Package, Message, Entry, Enum, Service, Field, EntryField, Oneof, Value, Method, Extension, Symbol, Workspace, meaning, Declared, Skeleton, name_of, symbol_of, reference_of, workspace_of, At, is_package, IsNested, IsLinked}
use Rattle.proto_case.specs.Camel.{entry_name}
use Rattle.proto_names_rules.specs.Faults.{Fault, fault, NameFault, earlier, of_package, ReferenceFault, unresolved, wrong_kind, of_entry, place_of}
use Rattle.proto_names_rules.proofs.Symbols.{one_symbol}

pub package_from : (k : Kind) → is_package k ≡ true → k ≡ Package
package_from Package h = refl
package_from Message h = absurd (true≢false (sym h))
package_from Entry h = absurd (true≢false (sym h))
package_from Enum h = absurd (true≢false (sym h))
package_from Service h = absurd (true≢false (sym h))
package_from Field h = absurd (true≢false (sym h))
package_from EntryField h = absurd (true≢false (sym h))
package_from Oneof h = absurd (true≢false (sym h))
package_from Value h = absurd (true≢false (sym h))
package_from Method h = absurd (true≢false (sym h))
package_from Extension h = absurd (true≢false (sym h))

pub package_or : (k : Kind) → (k ≡ Package) ⊎ (k ≢ Package)
package_or k = elim (cases_Bool (is_package k)) [
  | inl h ↦ inl (package_from k h)
  | inr h ↦ inr (λ e. both_ways (is_package k) h (ap is_package e))
]

module _ (text : At → List ℕ) (k : Skeleton At) where
  abbrev w : Workspace
  w = workspace_of text entry_name k

  name : Declared At → List (List ℕ)
  name d = name_of text entry_name d.path

  -- two declarations of one name are packages
  apart : ((f : Fault) → NameFault text k.declared f → ⊥) → (i j : ℕ) (d : Declared At) → i < j → j < length k.declared → name_of text entry_name (get_or k.declared i d).path ≡ name_of text entry_name (get_or k.declared j d).path
      → ((get_or k.declared i d).kind ≡ Package) × ((get_or k.declared j d).kind ≡ Package)
  apart none i j d below lj same =
      let li : i < length k.declared = omega arith in
      elim (package_or (get_or k.declared j d).kind) [
        | inr other ↦ absurd (none (fault (place_of (get_or k.declared j d)) 13) (earlier (get_or k.declared j d) (i, j, d, below, lj, refl, same) other))
        | inl pj ↦ elim (package_or (get_or k.declared i d).kind) [
          | inr other ↦ absurd (none (fault (place_of (get_or k.declared i d)) 13) (of_package (get_or k.declared i d) (get_or k.declared j d) (Contains-get_or k.declared i d li) (Contains-get_or k.declared j d lj) other pj same))
          | inl pi ↦ (pi, pj)
        ]
      ]

  pub linked_from : IsNested w.symbols → ((f : Fault) → NameFault text k.declared f → ⊥) → ((f : Fault) → ReferenceFault text k f → ⊥) → IsLinked w
  linked_from nested names references = record {
    nested = nested;
    unique = λ i j s below lj same. unique i j s below lj same;
    resolved = λ r cr h. let u = from_map (reference_of text entry_name) k.used r cr in references (fault u.0.first 14) (unresolved u.0 u.1 (ap (meaning w) u.2 ∙ h));
    no_entry = λ r cr s cs h e. let u = from_map (reference_of text entry_name) k.used r cr in references (fault u.0.first 16) (of_entry u.0 s u.1 cs (ap (meaning w) u.2 ∙ h) e);
    right_kind = λ r cr s cs h m e. let u = from_map (reference_of text entry_name) k.used r cr in references (fault u.0.first 15) (wrong_kind u.0 s u.1 cs (ap (meaning w) u.2 ∙ h) (ap (λ z. z.wants) u.2 ∙ m) e);
  }
    where
      unique : (i j : ℕ) (s : Symbol) → i < j → j < length w.symbols → (get_or w.symbols i s).name ≡ (get_or w.symbols j s).name → ((get_or w.symbols i s).kind ≡ Package) × ((get_or w.symbols j s).kind ≡ Package)
      unique i j s below lj same =
          let n = length-map k.declared (symbol_of text entry_name) in
          let lj' : j < length k.declared = omega (arith, n, lj) in
          let li' : i < length k.declared = omega (arith, lj', below) in
          let d = default s in
          let ei = get_or-map (symbol_of text entry_name) k.declared i d s li' in
          let ej = get_or-map (symbol_of text entry_name) k.declared j d s lj' in
          let r = apart names i j d below lj' (ap (λ z. z.name) (sym ei) ∙ same ∙ ap (λ z. z.name) ej) in
          (ap (λ z. z.kind) ei ∙ r.0, ap (λ z. z.kind) ej ∙ r.1)
        where
          default : Symbol → Declared At
          default s = record { path = []; kind = s.kind; file = s.file }

  pub names_sound : IsLinked w → (f : Fault) → NameFault text k.declared f → ⊥
  names_sound ok f (earlier d (i, j, x, below, lj, at_j, same) other) =
      let n = length-map k.declared (symbol_of text entry_name) in
      let li : i < length k.declared = omega (arith, lj, below) in
      let ei = get_or-map (symbol_of text entry_name) k.declared i x (symbol_of text entry_name x) li in
      let ej = get_or-map (symbol_of text entry_name) k.declared j x (symbol_of text entry_name x) lj in
      let lj' : j < length w.symbols = omega (arith, n, lj) in
      let r = ok.unique i j (symbol_of text entry_name x) below lj' (ap (λ z. z.name) ei ∙ same ∙ ap (λ z. name_of text entry_name z.path) (sym at_j) ∙ sym (ap (λ z. z.name) ej)) in
      other (ap (λ z. z.kind) (sym at_j) ∙ sym (ap (λ z. z.kind) ej) ∙ r.1)
  names_sound ok f (of_package d e cd ce other pe same) =
      elim (one_symbol w.symbols ok.unique (symbol_of text entry_name d) (symbol_of text entry_name e) (contains_map (symbol_of text entry_name) k.declared d cd) (contains_map (symbol_of text entry_name) k.declared e ce) same) [
        | inl one ↦ other (ap (λ z. z.kind) one ∙ pe)
        | inr both ↦ other both.0
      ]

  pub references_sound : IsLinked w → (f : Fault) → ReferenceFault text k f → ⊥
  references_sound ok f (unresolved u cu h) = ok.resolved (reference_of text entry_name u) (contains_map (reference_of text entry_name) k.used u cu) h
  references_sound ok f (wrong_kind u s cu cs h m e) = ok.right_kind (reference_of text entry_name u) (contains_map (reference_of text entry_name) k.used u cu) s cs h m e
  references_sound ok f (of_entry u s cu cs h e) = ok.no_entry (reference_of text entry_name u) (contains_map (reference_of text entry_name) k.used u cu) s cs h e
