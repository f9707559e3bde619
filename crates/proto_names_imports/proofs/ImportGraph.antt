-- The imports of files as lists of files, file by file (for the crates above).
use Rattle.std.proofs.Common.{◌≡◌, ◌↔◌, ℕ, zero, suc, ◌+◌, ◌<◌, ◌≤◌, List, [], ◌∷◌, length, get_or, map, Option, None, Some, option_map, refl, sym, ◌∙◌, ap, subst, inl, inr, arith, All, Contains, filter_map, bytes_eq}
use Rattle.proto_base.proofs.Common.{cons_option, get_or-map, get_or_default, length-map, Contains-append_left, Contains-append_right, Contains-append_cases, none-some, same_Some, position-Some, from_map, contains_map, contains_cases, contains_head, contains_later}
use Rattle.proto_names_rules.proofs.Common.{Import, Leads, stop, onward, Fault, AskedImport, file_with_path, import_from_asked, imports_of}
use Rattle.proto_names_imports.specs.Common.{import_from, all_imports, AreTurned, AreImporters, CycleFault, cycle, FileImport}
use Rattle.proto_names_imports.proofs.Turned.{contains_within}

-- an import stands in its file
pub import_in : (n : ℕ) (is : List (List FileImport)) (i : Import) → Contains (all_imports n is) i → (k : ℕ) × (k < length is) × (i.from ≡ n + k) × ((x : FileImport) × Contains (get_or is k []) x × (import_from (n + k) x ≡ i))
import_in n [] i c = absurd (omega (arith, c.1))
import_in n (xs ∷ is) i c = elim (Contains-append_cases (map (import_from n) xs) (all_imports (suc n) is) i c) [
  | inl h ↦
      let z : n ≡ n + 0 = omega arith in
      let r = from_map (import_from n) xs i h in
      (0, omega arith, sym (ap (λ j. j.from) r.2) ∙ z, (r.0, r.1, ap (λ m. import_from m r.0) (sym z) ∙ r.2))
  | inr t ↦
      let r = import_in (suc n) is i t in
      let z : suc n + r.0 ≡ n + suc r.0 = omega arith in
      (suc r.0, omega (arith, r.1), r.2 ∙ z, (r.3.0, r.3.1, ap (λ m. import_from m r.3.0) (sym z) ∙ r.3.2))
]

pub import_of_file : (n k : ℕ) (is : List (List FileImport)) (x : FileImport) → Contains (get_or is k []) x → Contains (all_imports n is) (import_from (n + k) x)
import_of_file n k [] x c = absurd (omega (arith, c.1))
import_of_file n zero (xs ∷ is) x c = let z : n ≡ n + 0 = omega arith in Contains-append_left (map (import_from n) xs) (all_imports (suc n) is) (import_from (n + 0) x) (subst (λ m. Contains (map (import_from n) xs) (import_from m x)) z (contains_map (import_from n) xs x c))
import_of_file n (suc k) (xs ∷ is) x c =
    let z : suc n + k ≡ n + suc k = omega arith in
    Contains-append_right (map (import_from n) xs) (all_imports (suc n) is) (import_from (n + suc k) x) (subst (λ m. Contains (all_imports (suc n) is) (import_from m x)) z (import_of_file (suc n) k is x c))

abbrev pub IsGraph : List (List ℕ) → List Import → Type 0
IsGraph next imports = (from to : ℕ) → Contains (get_or next from []) to ↔ ((i : Import) × Contains imports i × (i.from ≡ from) × (i.to ≡ to))

at_map : (is : List (List FileImport)) (from to : ℕ) → Contains (get_or (map (map (λ i. i.to)) is) from []) to → (from < length is) × Contains (map (λ i. i.to) (get_or is from [])) to
at_map is from to c =
    let l : from < length is = let w = contains_within (map (map (λ i. i.to)) is) from to c in omega (arith, w, length-map is (map (λ i. i.to))) in
    (l, subst (λ z. Contains z to) (get_or-map (map (λ i. i.to)) is from [] [] l) c)

-- the lists of the files that are imported
pub graph_of : (is : List (List FileImport)) → IsGraph (map (map (λ i. i.to)) is) (all_imports 0 is)
graph_of is from to = (
  λ c. (
      let a = at_map is from to c in
      let r = from_map (λ i. i.to) (get_or is from []) to a.1 in
      let z : 0 + from ≡ from = omega arith in
      (import_from (0 + from) r.0, import_of_file 0 from is r.0 r.1, z, r.2)),
  λ d. (
      let r = import_in 0 is d.0 d.1 in
      let k : r.0 ≡ from = let q = r.2 in let p = d.2 in omega (arith, p, q) in
      let t : r.3.0.to ≡ to = ap (λ j. j.to) r.3.2 ∙ d.3 in
      let c = subst (λ z. Contains (map (λ i. i.to) (get_or is r.0 [])) z) t (contains_map (λ i. i.to) (get_or is r.0 []) r.3.0 r.3.1) in
      subst (λ z. Contains (get_or (map (map (λ i. i.to)) is) z []) to) k (subst (λ z. Contains z to) (sym (get_or-map (map (λ i. i.to)) is r.0 [] [] r.1)) c)),
)

pub importers_of : (next back : List (List ℕ)) (imports : List Import) → IsGraph next imports → AreTurned next back → AreImporters back imports
importers_of next back imports g t from to = (λ c. (g from to).0 ((t from to).1 c), λ d. (t from to).0 ((g from to).1 d))

pub lead_join : (imports : List Import) {f g h : ℕ} → Leads imports f g → Leads imports g h → Leads imports f h
lead_join imports stop m = m
lead_join imports (onward i c e l) m = onward i c e (lead_join imports l m)

-- where ranks fall along imports, there is no cycle
pub lead_falls : (rank : ℕ → ℕ) (imports : List Import) → ((i : Import) → Contains imports i → rank i.to < rank i.from) → {f g : ℕ} → Leads imports f g → rank g ≤ rank f
lead_falls rank imports falls stop = omega arith
lead_falls rank imports falls {f} {g} (onward i c e l) =
    let r = lead_falls rank imports falls l in
    let s = falls i c in
    let t : rank i.from ≡ rank f = ap rank e in
    omega (arith, r, s, t)

pub contains_filtered : {X Y : Type 0} (h : X → Option Y) (xs : List X) (x : X) (y : Y) → Contains xs x → h x ≡ Some y → Contains (filter_map h xs) y
contains_filtered h [] x y c e = absurd (omega (arith, c.1))
contains_filtered {Y = Y} h (z ∷ xs) x y c e = elim (contains_cases z x xs c) [
  | inl same ↦ subst (λ o. Contains (cons_option o (filter_map h xs)) y) (sym (ap h same ∙ e)) (contains_head y (filter_map h xs))
  | inr d ↦ go (h z) (filter_map h xs) (contains_filtered h xs x y d e)
]
  where
    go : (o : Option Y) (ys : List Y) → Contains ys y → Contains (cons_option o ys) y
    go None ys k = k
    go (Some v) ys k = contains_later v y ys k

pub import_contained : (paths : List (List ℕ)) (asked : List AskedImport) (a : AskedImport) (to : ℕ) → Contains asked a → file_with_path paths a.path ≡ Some to → (i : Import) × Contains (imports_of paths asked) i × (i.from ≡ a.place.file) × (i.to ≡ to)
import_contained paths asked a to c h =
    let i : Import = record { from = a.place.file; to = to; is_public = a.is_public } in
    (i, contains_filtered (import_from_asked paths) asked a i c (ap (option_map (λ t. let j : Import = record { from = a.place.file; to = t; is_public = a.is_public } in j)) h), refl, refl)

pub no_cycle : (rank : ℕ → ℕ) (next : List (List ℕ)) (paths : List (List ℕ)) (asked : List AskedImport) → IsGraph next (imports_of paths asked) → ((a b : ℕ) → Contains (get_or next a []) b → rank b < rank a) → {f : Fault} → CycleFault paths asked f → ⊥
no_cycle rank next paths asked g falls (cycle a to c n l) =
    let i = import_contained paths asked a to c n in
    let edge = λ (j : Import) (d : Contains (imports_of paths asked) j). falls j.from j.to ((g j.from j.to).1 (j, d, refl, refl)) in
    let low = lead_falls rank (imports_of paths asked) edge l in
    let high = edge i.0 i.1 in
    let p : rank i.0.from ≡ rank a.place.file = ap rank i.2 in
    let q : rank i.0.to ≡ rank to = ap rank i.3 in
    omega (arith, low, high, p, q)

-- all that the lists have is below a number
pub within_map : {X : Type 0} (f : X → List FileImport) (n : ℕ) (xs : List X) → All (λ v. All (λ i. i.to < n) (f v)) xs → (k b : ℕ) → Contains (get_or (map (λ v. map (λ i. i.to) (f v)) xs) k []) b → b < n
within_map f n [] h k b c = absurd (omega (arith, c.1))
within_map f n (x ∷ xs) h zero b c =
    let r = from_map (λ i. i.to) (f x) b c in
    let s = h 0 x (omega arith) r.1.0 r.0 r.1.1 in
    let t : (get_or (f x) r.1.0 r.0).to ≡ b = ap (λ i. i.to) r.1.2 ∙ r.2 in
    omega (arith, s, t)
within_map f n (x ∷ xs) h (suc k) b c = within_map f n xs (λ j d l. h (suc j) d (omega (arith, l))) k b c

pub all_within : {Y : Type 0} (f : Y → List ℕ) (n : ℕ) (ys : List Y) → ((k b : ℕ) → Contains (get_or (map f ys) k []) b → b < n) → All (λ v. All (λ g. g < n) (f v)) ys
all_within f n ys h = λ k d l j e m. h k (get_or (f (get_or ys k d)) j e) (subst (λ z. Contains z (get_or (f (get_or ys k d)) j e)) (sym (get_or-map f ys k d [] l)) (j, m, get_or_default (f (get_or ys k d)) j (get_or (f (get_or ys k d)) j e) e m))

pub targets_twice : {X : Type 0} (f : X → List FileImport) (xs : List X) → map (λ v. map (λ i. i.to) (f v)) xs ≡ map (map (λ i. i.to)) (map f xs)
targets_twice f [] = refl
targets_twice f (x ∷ xs) = ap (λ z. map (λ i. i.to) (f x) ∷ z) (targets_twice f xs)

-- what is resolved names a file of the paths
from_filtered : {X Y : Type 0} (h : X → Option Y) (xs : List X) (y : Y) → Contains (filter_map h xs) y → (x : X) × (h x ≡ Some y)
from_filtered h [] y c = absurd (omega (arith, c.1))
from_filtered {X = X} {Y = Y} h (x ∷ xs) y c = go (h x) refl c (from_filtered h xs y)
  where
    go : (o : Option Y) → h x ≡ o → Contains (cons_option o (filter_map h xs)) y → (Contains (filter_map h xs) y → (z : X) × (h z ≡ Some y)) → (z : X) × (h z ≡ Some y)
    go None e d later = later d
    go (Some v) e d later = elim (contains_cases v y (filter_map h xs) d) [ inl same ↦ (x, e ∙ ap Some same) | inr rest ↦ later rest ]

pub import_within : (paths : List (List ℕ)) (asked : List AskedImport) (i : Import) → Contains (imports_of paths asked) i → i.to < length paths
import_within paths asked i c = let r = from_filtered (import_from_asked paths) asked i c in go r.0 (file_with_path paths r.0.path) refl r.1
  where
    go : (a : AskedImport) (o : Option ℕ) → file_with_path paths a.path ≡ o → import_from_asked paths a ≡ Some i → i.to < length paths
    go a None e h = absurd (none-some i (sym (ap (option_map (λ t. let j : Import = record { from = a.place.file; to = t; is_public = a.is_public } in j)) e) ∙ h))
    go a (Some t) e h =
        let j : Import = record { from = a.place.file; to = t; is_public = a.is_public } in
        let s : j ≡ i = same_Some j i (sym (ap (option_map (λ t. let j : Import = record { from = a.place.file; to = t; is_public = a.is_public } in j)) e) ∙ h) in
        let l = (position-Some (bytes_eq a.path) paths t [] e).0 in
        subst (λ z. z < length paths) (ap (λ z. z.to) s) l

pub resolved_within : {X : Type 0} (f : X → List FileImport) (xs : List X) (paths : List (List ℕ)) (asked : List AskedImport) (n : ℕ) → length paths ≡ n → all_imports 0 (map f xs) ≡ imports_of paths asked → All (λ v. All (λ i. i.to < n) (f v)) xs
resolved_within f xs paths asked n len same = λ k d l j e m.
    (let x = get_or (f (get_or xs k d)) j e in
    let c = import_of_file 0 k (map f xs) x (subst (λ z. Contains z x) (sym (get_or-map f xs k d [] l)) (j, m, get_or_default (f (get_or xs k d)) j x e m)) in
    let w = import_within paths asked (import_from (0 + k) x) (subst (λ z. Contains z (import_from (0 + k) x)) same c) in
    omega (arith, w, len))
