-- The declarations of files, gathered file after file, with each file's package first or where it stands.
use Rattle.std.proofs.Common.{◌≡◌, ◌↔◌, ℕ, suc, Bool, not, List, [], ◌∷◌, ◌++◌, map, refl, sym, ◌∙◌, ap, subst, inl, inr, Contains, filter}
use Rattle.proto_base.proofs.Common.{map-append, All-contains, Contains-append_left, Contains-append_right, Contains-append_cases, filter-append, contains_map, contains_head, contains_later, from_map}
use Rattle.proto_names_rules.specs.declared.kind.Kind.{Kind}
use Rattle.proto_names_rules.proofs.Common.{is_package, Source, Token, Items, no_items, packaged, item, Placed, placed, prefixes, package_of, items_placed, file_placed, ItemsSpan, FileNames, map_agree, map_map, filter_agree, filter_of_map}
use Rattle.proto_names_outline.proofs.Common.{items_below, package_first, same_declared}
use Rattle.proto_names_table.specs.Naming.{AreSpans}

-- what a list of each file's declarations makes of them
abbrev pub gathered : {B : Type 0} → (Items → List Placed) → (ℕ → Placed → B) → ℕ → List FileNames → List B
gathered listed g n [] = []
gathered listed g n (f ∷ fs) = map (g n) (listed f.items) ++ gathered listed g (suc n) fs

pub gathered_map : {B C : Type 0} (listed : Items → List Placed) (h : B → C) (g : ℕ → Placed → B) (k : ℕ → Placed → C) → ((n : ℕ) (p : Placed) → h (g n p) ≡ k n p)
    → (n : ℕ) (fs : List FileNames) → map h (gathered listed g n fs) ≡ gathered listed k n fs
gathered_map listed h g k same n [] = refl
gathered_map {B} {C} listed h g k same n (f ∷ fs) =
    map-append h (map (g n) (listed f.items)) (gathered listed g (suc n) fs)
    ∙ ap (λ (zs : List C). zs ++ map h (gathered listed g (suc n) fs)) (map_map (g n) h (listed f.items) ∙ map_agree (λ p. h (g n p)) (k n) (listed f.items) (λ p c. same n p))
    ∙ ap (λ (zs : List C). map (k n) (listed f.items) ++ zs) (gathered_map listed h g k same (suc n) fs)

-- ---- the same members

moved : {B : Type 0} (one other : Items → List Placed) (g : ℕ → Placed → B) (n : ℕ) (fs : List FileNames)
    → ((f : FileNames) → Contains fs f → (p : Placed) → Contains (one f.items) p → Contains (other f.items) p)
    → (b : B) → Contains (gathered one g n fs) b → Contains (gathered other g n fs) b
moved one other g n [] same b c = c
moved {B} one other g n (f ∷ fs) same b c = elim (Contains-append_cases (map (g n) (one f.items)) (gathered one g (suc n) fs) b c) [
  | inl a ↦ Contains-append_left (map (g n) (other f.items)) (gathered other g (suc n) fs) b (here (from_map (g n) (one f.items) b a))
  | inr a ↦ Contains-append_right (map (g n) (other f.items)) (gathered other g (suc n) fs) b (moved one other g (suc n) fs (λ h m. same h (contains_later f h fs m)) b a)
]
  where
    here : ((p : Placed) × Contains (one f.items) p × (g n p ≡ b)) → Contains (map (g n) (other f.items)) b
    here r = subst (Contains (map (g n) (other f.items))) r.2 (contains_map (g n) (other f.items) r.0 (same f (contains_head f fs) r.0 r.1))

pub same_gathered : {B : Type 0} (g : ℕ → Placed → B) (n : ℕ) (fs : List FileNames) → AreSpans fs
    → (b : B) → Contains (gathered package_first g n fs) b ↔ Contains (gathered file_placed g n fs) b
same_gathered g n fs spans b = (
  moved package_first file_placed g n fs (λ f c p. (same f c p).0) b,
  moved file_placed package_first g n fs (λ f c p. (same f c p).1) b,
)
  where
    same : (f : FileNames) → Contains fs f → (p : Placed) → Contains (package_first f.items) p ↔ Contains (file_placed f.items) p
    same f c p = let s = All-contains (λ f. (low high : ℕ) × ItemsSpan low high f.items) fs f spans c in same_declared f.items s.0 s.1 s.2 p

-- ---- the same order, but for packages

abbrev pub is_other : Kind → Bool
is_other k = not (is_package k)

abbrev others : List Placed → List Placed
others ps = filter (λ p. is_other p.kind) ps

no_prefix : (path : List (Source ℕ)) (ts : List ℕ) → others (prefixes path ts) ≡ []
no_prefix path [] = refl
no_prefix path (t ∷ ts) = no_prefix (path ++ Token t ∷ []) ts

others_append : (ps qs : List Placed) → others (ps ++ qs) ≡ others ps ++ others qs
others_append ps qs = filter-append (λ p. is_other p.kind) ps qs

others_below : (path : List (Source ℕ)) (is : Items) → others (items_placed path is) ≡ others (items_below path is)
others_below path no_items = refl
others_below path (packaged ts rest) =
    others_append (prefixes [] ts) (items_placed path rest)
    ∙ ap (λ (ps : List Placed). ps ++ others (items_placed path rest)) (no_prefix [] ts)
    ∙ others_below path rest
others_below path (item m rest) =
    others_append (placed path m) (items_placed path rest)
    ∙ ap (λ (ps : List Placed). others (placed path m) ++ ps) (others_below path rest)
    ∙ sym (others_append (placed path m) (items_below path rest))

others_same : (is : Items) → others (package_first is) ≡ others (file_placed is)
others_same is =
    let path = map (λ t. Token t) (package_of is) in
    others_append (prefixes [] (package_of is)) (items_below path is)
    ∙ ap (λ (ps : List Placed). ps ++ others (items_below path is)) (no_prefix [] (package_of is))
    ∙ sym (others_below path is)

pub same_others : {B : Type 0} (q : B → Bool) (g : ℕ → Placed → B) → ((n : ℕ) (p : Placed) → q (g n p) ≡ is_other p.kind) → (n : ℕ) (fs : List FileNames)
    → filter q (gathered package_first g n fs) ≡ filter q (gathered file_placed g n fs)
same_others q g kinds n [] = refl
same_others {B} q g kinds n (f ∷ fs) =
    filter-append q (map (g n) (package_first f.items)) (gathered package_first g (suc n) fs)
    ∙ ap (λ (zs : List B). zs ++ filter q (gathered package_first g (suc n) fs)) (kept (package_first f.items) ∙ ap (map (g n)) (others_same f.items) ∙ sym (kept (file_placed f.items)))
    ∙ ap (λ (zs : List B). filter q (map (g n) (file_placed f.items)) ++ zs) (same_others q g kinds (suc n) fs)
    ∙ sym (filter-append q (map (g n) (file_placed f.items)) (gathered file_placed g (suc n) fs))
  where
    kept : (ps : List Placed) → filter q (map (g n) ps) ≡ map (g n) (others ps)
    kept ps = filter_of_map q (g n) ps ∙ ap (map (g n)) (filter_agree (λ p. q (g n p)) (λ p. is_other p.kind) ps (kinds n))
