-- Imports without faults, with one more and with one less (for the crates above).
use Rattle.std.proofs.Common.{◌≡◌, ◌≢◌, ◌⊎◌, ℕ, List, [], ◌∷◌, ◌++◌, map, Option, Some, None, option_map, refl, sym, ◌∙◌, ap, subst, inl, inr, arith, Contains, filter_map}
use Rattle.proto_base.proofs.Common.{cons_option, Contains-append_cases, Contains-append_left, Contains-append_right, none-some, same_Some, contains_cases, contains_head, contains_later, contains_map, from_map}
use Rattle.proto_names_rules.proofs.Common.{IsAcyclic, Leads, onward, stop, AskedImport, Fault, ImportFault, cycle, double, fault, file_with_path, import_from_asked, imports_of, unknown, Import, Follows, after_follows, follows_after, follows_map, map_follows}
use Rattle.proto_edit_statement_laws.specs.Lists.{HasOneMore}
use Rattle.proto_edit_statement_laws.proofs.Lists.{one_filter_map, one_has, one_or}
use Rattle.proto_edit_statement_laws.proofs.Spelled.{imports_unplaced, unplaced}

-- ---- what stands behind what, with one element more

module _ {A : Type 0} (x : A) (rest : List A) where
  later_more : (front : List A) (z : A) → Contains (front ++ rest) z → Contains (front ++ x ∷ rest) z
  later_more front z c = elim (Contains-append_cases front rest z c) [
    | inl d ↦ Contains-append_left front (x ∷ rest) z d
    | inr d ↦ Contains-append_right front (x ∷ rest) z (contains_later x z rest d)
  ]

  later_or : (front : List A) (z : A) → Contains (front ++ x ∷ rest) z → Contains (front ++ rest) z ⊎ (x ≡ z)
  later_or front z c = elim (Contains-append_cases front (x ∷ rest) z c) [
    | inl d ↦ inl (Contains-append_left front rest z d)
    | inr d ↦ elim (contains_cases x z rest d) [ inl e ↦ inr e | inr e ↦ inl (Contains-append_right front rest z e) ]
  ]

  follows_more : (front : List A) (y z : A) → Follows (front ++ rest) y z → Follows (front ++ x ∷ rest) y z
  follows_more [] y z h = inr h
  follows_more (w ∷ front) y z (inl h) = inl (h.0, later_more front z h.1)
  follows_more (w ∷ front) y z (inr h) = inr (follows_more front y z h)

  -- the new one stands behind or in front of an old one
  abbrev IsBeside : List A → A → A → Type 0
  IsBeside front y z = ((x ≡ y) × Contains (front ++ rest) z) ⊎ ((x ≡ z) × Contains (front ++ rest) y)

  follows_or : (front : List A) (y z : A) → Follows (front ++ x ∷ rest) y z → Follows (front ++ rest) y z ⊎ IsBeside front y z
  follows_or [] y z (inl h) = inr (inl h)
  follows_or [] y z (inr h) = inl h
  follows_or (w ∷ front) y z (inl h) = elim (later_or front z h.1) [
    | inl c ↦ inl (inl (h.0, c))
    | inr e ↦ inr (inr (e, subst (Contains (w ∷ (front ++ rest))) h.0 (contains_head w (front ++ rest))))
  ]
  follows_or (w ∷ front) y z (inr h) = elim (follows_or front y z h) [
    | inl f ↦ inl (inr f)
    | inr (inl s) ↦ inr (inl (s.0, contains_later w z (front ++ rest) s.1))
    | inr (inr s) ↦ inr (inr (s.0, contains_later w y (front ++ rest) s.1))
  ]

-- ---- chains of imports

leads_by : (xs ys : List Import) → ((j : Import) → Contains xs j → Contains ys j) → {a b : ℕ} → Leads xs a b → Leads ys a b
leads_by xs ys sub stop = stop
leads_by xs ys sub (onward j c e l) = onward j (sub j c) e (leads_by xs ys sub l)

pub acyclic_by : (xs ys : List Import) → ((j : Import) → Contains xs j → Contains ys j) → IsAcyclic ys → IsAcyclic xs
acyclic_by xs ys sub acyclic j c l = acyclic j (sub j c) (leads_by xs ys sub l)

-- ---- imports that name files

filtered_has : {X Y : Type 0} (h : X → Option Y) (xs : List X) (x : X) (y : Y) → Contains xs x → h x ≡ Some y → Contains (filter_map h xs) y
filtered_has h [] x y c e = absurd (omega (arith, c.1))
filtered_has {X} {Y} h (z ∷ xs) x y c e = elim (contains_cases z x xs c) [
  | inl same ↦ subst (λ o. Contains (cons_option o (filter_map h xs)) y) (sym (ap h same ∙ e)) (contains_head y (filter_map h xs))
  | inr d ↦ behind (h z) (filtered_has h xs x y d e)
]
  where
    behind : (o : Option Y) → Contains (filter_map h xs) y → Contains (cons_option o (filter_map h xs)) y
    behind None d = d
    behind (Some v) d = contains_later v y (filter_map h xs) d

pub import_asked : (paths : List (List ℕ)) (asked : List AskedImport) (i : Import) → Contains (imports_of paths asked) i → (a : AskedImport) × Contains asked a × (import_from_asked paths a ≡ Some i)
import_asked paths [] i c = absurd (omega (arith, c.1))
import_asked paths (a ∷ asked) i c = by (λ d. let r = import_asked paths asked i d in (r.0, contains_later a r.0 asked r.1, r.2)) (import_from_asked paths a) refl c
  where
    by : (Contains (imports_of paths asked) i → (b : AskedImport) × Contains (a ∷ asked) b × (import_from_asked paths b ≡ Some i)) → (o : Option Import) → import_from_asked paths a ≡ o → Contains (cons_option o (imports_of paths asked)) i → (b : AskedImport) × Contains (a ∷ asked) b × (import_from_asked paths b ≡ Some i)
    by later None e d = later d
    by later (Some j) e d = elim (contains_cases j i (imports_of paths asked) d) [ inl same ↦ (a, contains_head a asked, e ∙ ap Some same) | inr k ↦ later k ]

-- the import, where the path is a file's
abbrev resolved : AskedImport → ℕ → Import
resolved a to = record { from = a.place.file; to = to; is_public = a.is_public }

resolves : (paths : List (List ℕ)) (a : AskedImport) (to : ℕ) → file_with_path paths a.path ≡ Some to → import_from_asked paths a ≡ Some (resolved a to)
resolves paths a to e = ap (option_map (λ t. let i : Import = record { from = a.place.file; to = t; is_public = a.is_public } in i)) e

pub asked_import : (paths : List (List ℕ)) (asked : List AskedImport) (a : AskedImport) (i : Import) → Contains asked a → import_from_asked paths a ≡ Some i → Contains (imports_of paths asked) i
asked_import paths asked a i c e = filtered_has (import_from_asked paths) asked a i c e

-- what an import that names a file is
import_named : (paths : List (List ℕ)) (a : AskedImport) (i : Import) → import_from_asked paths a ≡ Some i → (to : ℕ) × (file_with_path paths a.path ≡ Some to) × (resolved a to ≡ i)
import_named paths a i h = by (file_with_path paths a.path) refl
  where
    by : (o : Option ℕ) → file_with_path paths a.path ≡ o → (to : ℕ) × (file_with_path paths a.path ≡ Some to) × (resolved a to ≡ i)
    by None e = absurd (none-some i (sym (ap (option_map (λ t. let j : Import = record { from = a.place.file; to = t; is_public = a.is_public } in j)) e) ∙ h))
    by (Some to) e = (to, e, same_Some (resolved a to) i (sym (resolves paths a to e) ∙ h))

-- ---- what is wanted of imports

-- Each names a file, no file has two of one path, and none closes a cycle.
pub record AreSound (paths : List (List ℕ)) (asked : List AskedImport) : Type 0 where
  pub known : (a : AskedImport) → Contains asked a → file_with_path paths a.path ≢ None
  pub once : (x y : AskedImport) → Follows asked x y → x.place.file ≡ y.place.file → x.path ≡ y.path → ⊥
  pub acyclic : IsAcyclic (imports_of paths asked)

-- then there is no fault,
pub no_fault : (paths : List (List ℕ)) (asked : List AskedImport) → AreSound paths asked → (f : Fault) → ImportFault paths asked f → ⊥
no_fault paths asked ok f (unknown a c e) = ok.known a c e
no_fault paths asked ok f (double a h) = let r = follows_after (λ (x y : AskedImport). (x.place.file ≡ y.place.file) × (x.path ≡ y.path)) asked a h in ok.once r.0 a r.1 r.2.0 r.2.1
no_fault paths asked ok f (cycle a to c e l) = ok.acyclic (resolved a to) (asked_import paths asked a (resolved a to) c (resolves paths a to e)) l

-- and the other way round.
pub sound_from : (paths : List (List ℕ)) (asked : List AskedImport) → ((f : Fault) → ImportFault paths asked f → ⊥) → AreSound paths asked
sound_from paths asked none = record {
  known = λ a c e. none (fault a.place 10) (unknown a c e);
  once = λ x y h e p. none (fault y.place 11) (double y (after_follows (λ (x y : AskedImport). (x.place.file ≡ y.place.file) × (x.path ≡ y.path)) asked x y h (e, p)));
  acyclic = acyclic;
}
  where
    acyclic : IsAcyclic (imports_of paths asked)
    acyclic i c l =
        let a = import_asked paths asked i c in
        let t = import_named paths a.0 i a.2 in
        none (fault a.0.place 12) (cycle a.0 t.0 a.1 t.1 (subst (λ (j : Import). Leads (imports_of paths asked) j.to j.from) (sym t.2) l))

-- ---- wherever they stand

module _ (paths : List (List ℕ)) (asked : List AskedImport) where
  pub sound_unplaced : AreSound paths asked → AreSound paths (map unplaced asked)
  sound_unplaced ok = record {
    known = λ b c e. let a = from_map unplaced asked b c in ok.known a.0 a.1 (ap (λ (z : AskedImport). file_with_path paths z.path) a.2 ∙ e);
    once = λ u v h e p. let r = map_follows unplaced asked u v h in ok.once r.0 r.1 r.2 (ap (λ (z : AskedImport). z.place.file) r.3 ∙ e ∙ sym (ap (λ (z : AskedImport). z.place.file) r.4)) (ap (λ (z : AskedImport). z.path) r.3 ∙ p ∙ sym (ap (λ (z : AskedImport). z.path) r.4));
    acyclic = subst IsAcyclic (sym (imports_unplaced paths asked)) ok.acyclic;
  }

  pub sound_placed : AreSound paths (map unplaced asked) → AreSound paths asked
  sound_placed ok = record {
    known = λ a c e. ok.known (unplaced a) (contains_map unplaced asked a c) e;
    once = λ x y h e p. ok.once (unplaced x) (unplaced y) (follows_map unplaced asked x y h) e p;
    acyclic = subst IsAcyclic (imports_unplaced paths asked) ok.acyclic;
  }

-- ---- one more, one less

module _ (paths : List (List ℕ)) (a : AskedImport) (xs ys : List AskedImport) (h : HasOneMore a xs ys) where
  pub sound_less : (i : Import) → import_from_asked paths a ≡ Some i → AreSound paths ys → AreSound paths xs
  sound_less i e ok = record {
    known = λ b c. ok.known b (one_has a xs ys h b c);
    once = λ x y f. ok.once x y (subst (λ (l : List AskedImport). Follows l x y) (sym h.is) (follows_more a h.back h.front x y (subst (λ (l : List AskedImport). Follows l x y) h.was f)));
    acyclic = acyclic_by (imports_of paths xs) (imports_of paths ys) (one_has i (imports_of paths xs) (imports_of paths ys) (one_filter_map a xs ys h (import_from_asked paths) i e)) ok.acyclic;
  }

  pub sound_more : file_with_path paths a.path ≢ None → ((b : AskedImport) → Contains xs b → b.place.file ≡ a.place.file → b.path ≡ a.path → ⊥) → IsAcyclic (imports_of paths ys) → AreSound paths xs → AreSound paths ys
  sound_more named new acyclic ok = record {
    known = λ b c e. elim (one_or a xs ys h b c) [ inl d ↦ ok.known b d e | inr same ↦ named (ap (λ (z : AskedImport). file_with_path paths z.path) same ∙ e) ];
    once = once;
    acyclic = acyclic;
  }
    where
      within : (b : AskedImport) → Contains (h.front ++ h.back) b → Contains xs b
      within b c = subst (λ (l : List AskedImport). Contains l b) (sym h.was) c

      once : (x y : AskedImport) → Follows ys x y → x.place.file ≡ y.place.file → x.path ≡ y.path → ⊥
      once x y f e p = elim (follows_or a h.back h.front x y (subst (λ (l : List AskedImport). Follows l x y) h.is f)) [
        | inl g ↦ ok.once x y (subst (λ (l : List AskedImport). Follows l x y) (sym h.was) g) e p
        | inr (inl s) ↦ new y (within y s.1) (sym e ∙ ap (λ (z : AskedImport). z.place.file) (sym s.0)) (sym p ∙ ap (λ (z : AskedImport). z.path) (sym s.0))
        | inr (inr s) ↦ new x (within x s.1) (e ∙ ap (λ (z : AskedImport). z.place.file) (sym s.0)) (p ∙ ap (λ (z : AskedImport). z.path) (sym s.0))
      ]
