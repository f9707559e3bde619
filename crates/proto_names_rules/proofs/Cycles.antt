-- An added import closes no cycle where its file isn't reached from what it imports.
use Rattle.std.proofs.Common.{◌≡◌, ℕ, List, [], ◌∷◌, ◌++◌, refl, sym, ◌∙◌, ap, subst, inl, inr, ◌⊎◌}
use Rattle.std.proofs.lemmas.List.Elements.{Contains-push_cases}
use Rattle.proto_names_rules.specs.Common.{Import, import_of}
use Rattle.proto_names_rules.specs.Cycles.{Leads, stop, onward, IsAcyclic}

join : (a : List Import) {f g h : ℕ} → Leads a f g → Leads a g h → Leads a f h
join a stop m = m
join a (onward i c e l) m = onward i c e (join a l m)

split : (a : List Import) (file path : ℕ) {f g : ℕ} → Leads (a ++ import_of file path ∷ []) f g → Leads a f g ⊎ (Leads a f file × Leads a path g)
split a file path stop = inl stop
split a file path (onward i c e l) = elim (Contains-push_cases a (import_of file path) i c) [
  | inl old ↦ elim (split a file path l) [ inl m ↦ inl (onward i old e m) | inr m ↦ inr (onward i old e m.0, m.1) ]
  | inr new ↦ inr (at_file (sym (ap (λ z. z.from) new)) e, elim (split a file path l) [ inl m ↦ from_path (sym (ap (λ z. z.to) new)) m | inr m ↦ m.1 ])
]
  where
    at_file : {f : ℕ} → i.from ≡ file → i.from ≡ f → Leads a f file
    at_file {f} p q = subst (λ z. Leads a f z) (sym q ∙ p) stop

    from_path : {g : ℕ} → i.to ≡ path → Leads a i.to g → Leads a path g
    from_path {g} p m = subst (λ z. Leads a z g) p m

pub added_acyclic : (a : List Import) (file path : ℕ) → IsAcyclic a → (Leads a path file → ⊥) → IsAcyclic (a ++ import_of file path ∷ [])
added_acyclic a file path ok free i c l = elim (Contains-push_cases a (import_of file path) i c) [
  | inl old ↦ elim (split a file path l) [
    | inl m ↦ ok i old m
    | inr m ↦ free (join a m.1 (onward i old refl m.0))
  ]
  | inr new ↦ elim (split a file path l) [
    | inl m ↦ free (subst (λ z. Leads a path z) (sym (ap (λ z. z.from) new)) (subst (λ z. Leads a z i.from) (sym (ap (λ z. z.to) new)) m))
    | inr m ↦ free (subst (λ z. Leads a z file) (sym (ap (λ z. z.to) new)) m.0)
  ]
]
