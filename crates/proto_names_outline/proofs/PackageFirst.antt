-- A file declares the same with its package first (for the crates above).
use Rattle.std.proofs.Common.{◌≡◌, ◌↔◌, ℕ, List, [], ◌++◌, refl, sym, ◌∙◌, ap, subst, inl, inr, map, Contains}
use Rattle.std.proofs.lemmas.List.Elements.{Contains-append_left, Contains-append_right, Contains-append_cases}
use Rattle.proto_names_rules.proofs.Common.{Source, Token, Items, no_items, packaged, item, Placed, placed, prefixes, package_of, items_placed, file_placed, ItemsSpan}
use Rattle.proto_names_outline.specs.Listing.{items_below, package_first}

-- without a package
below_alone : (path : List (Source ℕ)) (is : Items) (lo hi : ℕ) → ItemsSpan lo hi is → package_of is ≡ [] → items_placed path is ≡ items_below path is
below_alone path no_items lo hi s e = refl
below_alone path (packaged ts rest) lo hi s e = ap (λ (x : List ℕ). prefixes [] x ++ items_placed path rest) e ∙ below_alone path rest s.0 hi s.3 s.4
below_alone path (item m rest) lo hi s e = ap (λ (ps : List Placed). placed path m ++ ps) (below_alone path rest s.0 hi s.4 e)

abbrev in_front : List (Source ℕ) → Items → List Placed
in_front path is = prefixes [] (package_of is) ++ items_below path is

to_front : (path : List (Source ℕ)) (is : Items) (lo hi : ℕ) → ItemsSpan lo hi is → (p : Placed) → Contains (items_placed path is) p → Contains (in_front path is) p
to_front path no_items lo hi s p c = c
to_front path (packaged ts rest) lo hi s p c = subst (λ (ps : List Placed). Contains (prefixes [] ts ++ ps) p) (below_alone path rest s.0 hi s.3 s.4) c
to_front path (item m rest) lo hi s p c =
    let front = prefixes [] (package_of rest) in
    elim (Contains-append_cases (placed path m) (items_placed path rest) p c) [
      | inl a ↦ Contains-append_right front (placed path m ++ items_below path rest) p (Contains-append_left (placed path m) (items_below path rest) p a)
      | inr a ↦ elim (Contains-append_cases front (items_below path rest) p (to_front path rest s.0 hi s.4 p a)) [
        | inl b ↦ Contains-append_left front (placed path m ++ items_below path rest) p b
        | inr b ↦ Contains-append_right front (placed path m ++ items_below path rest) p (Contains-append_right (placed path m) (items_below path rest) p b)
      ]
    ]

from_front : (path : List (Source ℕ)) (is : Items) (lo hi : ℕ) → ItemsSpan lo hi is → (p : Placed) → Contains (in_front path is) p → Contains (items_placed path is) p
from_front path no_items lo hi s p c = c
from_front path (packaged ts rest) lo hi s p c = subst (λ (ps : List Placed). Contains (prefixes [] ts ++ ps) p) (sym (below_alone path rest s.0 hi s.3 s.4)) c
from_front path (item m rest) lo hi s p c =
    let front = prefixes [] (package_of rest) in
    let later = λ (x : Contains (in_front path rest) p). Contains-append_right (placed path m) (items_placed path rest) p (from_front path rest s.0 hi s.4 p x) in
    elim (Contains-append_cases front (placed path m ++ items_below path rest) p c) [
      | inl a ↦ later (Contains-append_left front (items_below path rest) p a)
      | inr a ↦ elim (Contains-append_cases (placed path m) (items_below path rest) p a) [
        | inl b ↦ Contains-append_left (placed path m) (items_placed path rest) p b
        | inr b ↦ later (Contains-append_right front (items_below path rest) p b)
      ]
    ]

pub same_declared : (is : Items) (lo hi : ℕ) → ItemsSpan lo hi is → (p : Placed) → Contains (package_first is) p ↔ Contains (file_placed is) p
same_declared is lo hi s p = (from_front (map (λ t. Token t) (package_of is)) is lo hi s p, to_front (map (λ t. Token t) (package_of is)) is lo hi s p)
