-- In files without a fault of imports each import names a file, and no file has two of one path.
use Rattle.std.proofs.Common.{◌≡◌, ℕ, zero, suc, ◌+◌, List, [], ◌∷◌, ◌++◌, map, Option, Some, None, refl, subst, inl, inr, arith, Contains}
use Rattle.proto_base.proofs.Common.{Contains-append_left, Contains-append_right, kind_number, contains_cases, contains_head, contains_map}
use Rattle.proto_base.specs.declared.fault.FaultKind.{FaultKind}
use Rattle.proto_base.specs.declared.fault.FaultKind.TheVariants as kind
use Rattle.proto_text.specs.Texts.{offset_at}
use Rattle.proto_files.proofs.Common.{HasNoFault, AreRead, ReadOf, read_at, FileOf, file_at, paths_of}
use Rattle.proto_names_rules.proofs.Common.{AskedImport, Fault, ImportFault, double, fault, file_with_path, unknown, At, Follows, after_follows, follows_map}
use Rattle.proto_names_outline.specs.FromTree.{Wanted, imports_in}
use Rattle.proto_names_imports.specs.Links.{LinkFaults, all_wanted, asked_as, of_import, text_of}
use Rattle.proto_edit_rules.specs.AddImport.{asked_in}
use Rattle.proto_edit_rules.specs.Statements.{tree_at}

-- ---- what stands behind what

module _ {A : Type 0} where
  pub follows_front : (zs xs : List A) (x y : A) → Follows xs x y → Follows (zs ++ xs) x y
  follows_front [] xs x y h = h
  follows_front (z ∷ zs) xs x y h = inr (follows_front zs xs x y h)

  follows_back : (xs zs : List A) (x y : A) → Follows xs x y → Follows (xs ++ zs) x y
  follows_back [] zs x y h = absurd h
  follows_back (w ∷ xs) zs x y (inl h) = inl (h.0, Contains-append_left xs zs y h.1)
  follows_back (w ∷ xs) zs x y (inr h) = inr (follows_back xs zs x y h)

  -- an element behind those in front of it
  pub follows_those : (front : List A) (x : A) (back : List A) (y : A) → Contains front y → Follows (front ++ x ∷ back) y x
  follows_those [] x back y c = absurd (omega (arith, c.1))
  follows_those (z ∷ front) x back y c = elim (contains_cases z y front c) [
    | inl e ↦ inl (e, Contains-append_right front (x ∷ back) x (contains_head x back))
    | inr d ↦ inr (follows_those front x back y d)
  ]

-- ---- the imports of one file among those of all

module _ (text : At → List ℕ) where
  asked_there : (n : ℕ) (rs : List ReadOf) (k : ℕ) (w : Wanted) → Contains (imports_in (read_at rs k).tree) w → Contains (all_wanted text n rs) (asked_as text (n + k) w)
  asked_there n [] k w c = absurd (omega (arith, c.1))
  asked_there n (r ∷ rs) zero w c =
      let e : n ≡ n + 0 = omega arith in
      subst (λ m. Contains (all_wanted text n (r ∷ rs)) (asked_as text m w)) e
      (Contains-append_left (map (asked_as text n) (imports_in r.tree)) (all_wanted text (suc n) rs) (asked_as text n w) (contains_map (asked_as text n) (imports_in r.tree) w c))
  asked_there n (r ∷ rs) (suc k) w c =
      let e : suc n + k ≡ n + suc k = omega arith in
      subst (λ m. Contains (all_wanted text n (r ∷ rs)) (asked_as text m w)) e
      (Contains-append_right (map (asked_as text n) (imports_in r.tree)) (all_wanted text (suc n) rs) (asked_as text (suc n + k) w) (asked_there (suc n) rs k w c))

  asked_follow : (n : ℕ) (rs : List ReadOf) (k : ℕ) (v w : Wanted) → Follows (imports_in (read_at rs k).tree) v w → Follows (all_wanted text n rs) (asked_as text (n + k) v) (asked_as text (n + k) w)
  asked_follow n [] k v w h = absurd h
  asked_follow n (r ∷ rs) zero v w h =
      let e : n ≡ n + 0 = omega arith in
      subst (λ m. Follows (all_wanted text n (r ∷ rs)) (asked_as text m v) (asked_as text m w)) e
      (follows_back (map (asked_as text n) (imports_in r.tree)) (all_wanted text (suc n) rs) (asked_as text n v) (asked_as text n w) (follows_map (asked_as text n) (imports_in r.tree) v w h))
  asked_follow n (r ∷ rs) (suc k) v w h =
      let e : suc n + k ≡ n + suc k = omega arith in
      subst (λ m. Follows (all_wanted text n (r ∷ rs)) (asked_as text m v) (asked_as text m w)) e
      (follows_front (map (asked_as text n) (imports_in r.tree)) (all_wanted text (suc n) rs) (asked_as text (suc n + k) v) (asked_as text (suc n + k) w) (asked_follow (suc n) rs k v w h))

-- ---- no fault

pub none_or : (o : Option ℕ) → (o ≡ None → ⊥) → (k : ℕ) × (o ≡ Some k)
none_or None h = absurd (h refl)
none_or (Some k) h = (k, refl)

module _ (files : List FileOf) (reads : List ReadOf) (read : AreRead files reads) (clean : HasNoFault (LinkFaults files)) where
  no_fault : (f : Fault) (k : FaultKind) → kind_number k ≡ f.number → ImportFault (paths_of files) (asked_in files reads) f → ⊥
  no_fault f k e h = clean (record { path = (file_at files f.place.file).path; offset = offset_at (read_at reads f.place.file).tokens f.place.token; kind = k }) (of_import reads f _ read (record { path = refl; offset = refl; number = e }) h)

  pub names_file : (k : ℕ) (w : Wanted) → Contains (imports_in (tree_at reads k)) w → (to : ℕ) × (file_with_path (paths_of files) (asked_as (text_of files reads) k w).path ≡ Some to)
  names_file k w c =
      let a : AskedImport = asked_as (text_of files reads) k w in
      let zero_is : 0 + k ≡ k = omega arith in
      let there : Contains (asked_in files reads) a = subst (λ m. Contains (asked_in files reads) (asked_as (text_of files reads) m w)) zero_is (asked_there (text_of files reads) 0 reads k w c) in
      none_or (file_with_path (paths_of files) a.path) (λ e. no_fault (fault a.place 10) kind.UnknownImport refl (unknown a there e))

  pub not_twice : (k : ℕ) (v w : Wanted) → Follows (imports_in (tree_at reads k)) v w → (asked_as (text_of files reads) k v).path ≡ (asked_as (text_of files reads) k w).path → ⊥
  not_twice k v w h e =
      let a : AskedImport = asked_as (text_of files reads) k v in
      let b : AskedImport = asked_as (text_of files reads) k w in
      let zero_is : 0 + k ≡ k = omega arith in
      let behind : Follows (asked_in files reads) a b = subst (λ m. Follows (asked_in files reads) (asked_as (text_of files reads) m v) (asked_as (text_of files reads) m w)) zero_is (asked_follow (text_of files reads) 0 reads k v w h) in
      no_fault (fault b.place 11) kind.DoubleImport refl (double b (after_follows (λ (x y : AskedImport). (x.place.file ≡ y.place.file) × (x.path ≡ y.path)) (asked_in files reads) a b behind (refl, e)))
