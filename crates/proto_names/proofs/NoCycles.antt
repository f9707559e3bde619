-- Where no import is faulty, none leads back to its file.
use Rattle.std.proofs.Common.{◌≡◌, ℕ, List, [], ◌∷◌, option_map, Option, Some, None, refl, sym, ◌∙◌, ap, subst, inl, inr, arith, Contains}
use Rattle.proto_base.proofs.Common.{cons_option, contains_cases, contains_head, contains_later, none-some, same_Some}
use Rattle.proto_names_rules.proofs.Common.{AskedImport, Fault, Import, ImportFault, IsAcyclic, Leads, cycle, fault, file_with_path, import_from_asked, imports_of}

-- an import that names a file is asked for
asked_for : (paths : List (List ℕ)) (asked : List AskedImport) (i : Import) → Contains (imports_of paths asked) i → (a : AskedImport) × Contains asked a × (import_from_asked paths a ≡ Some i)
asked_for paths [] i c = absurd (omega (arith, c.1))
asked_for paths (a ∷ asked) i c = go (import_from_asked paths a) refl c (asked_for paths asked i)
  where
    go : (o : Option Import) → import_from_asked paths a ≡ o → Contains (cons_option o (imports_of paths asked)) i → (Contains (imports_of paths asked) i → (b : AskedImport) × Contains asked b × (import_from_asked paths b ≡ Some i)) → (b : AskedImport) × Contains (a ∷ asked) b × (import_from_asked paths b ≡ Some i)
    go None e d later = let r = later d in (r.0, contains_later a r.0 asked r.1, r.2)
    go (Some j) e d later = elim (contains_cases j i (imports_of paths asked) d) [
      | inl same ↦ (a, contains_head a asked, e ∙ ap Some same)
      | inr rest ↦ let r = later rest in (r.0, contains_later a r.0 asked r.1, r.2)
    ]

-- by the path of the file to which it leads, in the file from which it does
named_by : (paths : List (List ℕ)) (a : AskedImport) (i : Import) → import_from_asked paths a ≡ Some i → (file_with_path paths a.path ≡ Some i.to) × (a.place.file ≡ i.from)
named_by paths a i h = go (file_with_path paths a.path) refl
  where
    go : (o : Option ℕ) → file_with_path paths a.path ≡ o → (file_with_path paths a.path ≡ Some i.to) × (a.place.file ≡ i.from)
    go None e = absurd (none-some i (sym (ap (option_map (λ t. let j : Import = record { from = a.place.file; to = t; is_public = a.is_public } in j)) e) ∙ h))
    go (Some t) e =
        let j : Import = record { from = a.place.file; to = t; is_public = a.is_public } in
        let s : j ≡ i = same_Some j i (sym (ap (option_map (λ t. let j : Import = record { from = a.place.file; to = t; is_public = a.is_public } in j)) e) ∙ h) in
        (e ∙ ap (λ (x : Import). Some x.to) s, ap (λ (x : Import). x.from) s)

pub acyclic_by_faults : (paths : List (List ℕ)) (asked : List AskedImport) → ((f : Fault) → ImportFault paths asked f → ⊥) → IsAcyclic (imports_of paths asked)
acyclic_by_faults paths asked none i c leads =
    let a = asked_for paths asked i c in
    let named = named_by paths a.0 i a.2 in
    none (fault a.0.place 12) (cycle a.0 i.to a.1 named.0 (subst (λ g. Leads (imports_of paths asked) i.to g) (sym named.1) leads))
