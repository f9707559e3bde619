-- With more imports more is seen, and a reference hits where it hit.
use Rattle.std.proofs.Common.{◌≡◌, ℕ, zero, suc, Bool, true, false, ◌&&◌, ◌||◌, ◌==◌, List, ◌++◌, take, refl, Contains}
use Rattle.proto_base.proofs.Common.{list_any, and_from, false_from_ne_true, both_ways, any_from, any_to}
use Rattle.proto_names_rules.proofs.Common.{IsNeeded, IsOvertaken, with_imports, Import, Reference, Workspace, fits_at_first, hits_at, reaches, same_name, sees, same_from_name, shown}

or_more : (x y z : Bool) → (y ≡ true → z ≡ true) → (x || y) ≡ true → (x || z) ≡ true
or_more true y z f h = refl
or_more false y z f h = f h

and_more : (x y z : Bool) → (y ≡ true → z ≡ true) → (x && y) ≡ true → (x && z) ≡ true
and_more true y z f h = f h
and_more false y z f h = h

any_more : (p q : Import → Bool) (xs ys : List Import) → ((i : Import) → Contains xs i → Contains ys i) → ((i : Import) → p i ≡ true → q i ≡ true) → list_any p xs ≡ true → list_any q ys ≡ true
any_more p q xs ys sub turn h = let x = any_to p xs h in any_from q ys x.0 (sub x.0 x.1) (turn x.0 x.2)

module _ (w : Workspace) (xs ys : List Import) (sub : (i : Import) → Contains xs i → Contains ys i) where
  reaches_by : (n f g : ℕ) → reaches xs n f g ≡ true → reaches ys n f g ≡ true
  reaches_by zero f g h = h
  reaches_by (suc n) f g h =
      or_more (f == g) _ _ (any_more (λ i. (i.from == f) && i.is_public && reaches xs n i.to g) (λ i. (i.from == f) && i.is_public && reaches ys n i.to g) xs ys sub (λ i q. and_more ((i.from == f) && i.is_public) _ _ (reaches_by n i.to g) q)) h

  pub sees_by : (f g : ℕ) → sees (with_imports w xs) f g ≡ true → sees (with_imports w ys) f g ≡ true
  sees_by f g h = or_more (f == g) _ _ (any_more (λ i. (i.from == f) && reaches xs w.files i.to g) (λ i. (i.from == f) && reaches ys w.files i.to g) xs ys sub (λ i q. and_more (i.from == f) _ _ (reaches_by w.files i.to g) q)) h

  hits_by : (r : Reference) (j : ℕ) → hits_at (with_imports w xs) r j ≡ true → hits_at (with_imports w ys) r j ≡ true
  hits_by r j h =
      let x = take j r.scope ++ take 1 r.words in
      let s = shown (with_imports w xs) r.file (fits_at_first r.wants r.words) x h in
      any_from (λ s. same_name s.name x && (fits_at_first r.wants r.words s.kind && sees (with_imports w ys) r.file s.file)) w.symbols s.0 s.1 (and_from _ _ (same_from_name s.0.name x s.2) (and_from _ _ s.3 (sees_by r.file s.0.file s.4)))

  -- what is overtaken with the fewer imports is so with the more
  pub overtaken_by : (r : Reference) → IsOvertaken w (with_imports w xs) r → IsOvertaken w (with_imports w ys) r
  overtaken_by r c = (c.0, c.1, c.2, c.3, c.4, hits_by r c.1 c.5)

  -- what is needed with the more imports is so with the fewer
  pub needed_by : (r : Reference) → IsNeeded w (with_imports w ys) r → IsNeeded w (with_imports w xs) r
  needed_by r c = (c.0, c.1, c.2, false_from_ne_true (sees (with_imports w xs) r.file c.0.file) (λ q. both_ways (sees (with_imports w ys) r.file c.0.file) c.3 (sees_by r.file c.0.file q)))
