-- What a file sees, as a walk along its own imports and the public ones of the others (for the crates above).
use Rattle.std.proofs.Common.{◌≡◌, ◌≢◌, ◌⊎◌, ◌↔◌, ℕ, zero, suc, ◌+◌, ◌<◌, Bool, true, false, List, [], ◌∷◌, ◌++◌, length, get_or, map, filter, refl, sym, ◌∙◌, ap, subst, inl, inr, arith, slice_set, All, Contains, get_or-set_same, get_or-set_other}
use Rattle.proto_base.proofs.Common.{cases_eq, both_ways, get_or-map, length-map, from_map, contains_map, contains_filter, from_filter}
use Rattle.std.proofs.Math.ListN.{get_or-append}
use Rattle.std.proofs.Math.Seq.{get_or-append_seam}
use Rattle.proto_names_rules.proofs.Common.{Import, Workspace, Reaches, here, along, Sees, itself, by_import, sees, ImportsAreOfFiles, MarksSeen, sees_is}
use Rattle.proto_names_imports.specs.Common.{Walks, stays, goes, IsMarked, import_from, all_imports, FileImport}
use Rattle.proto_names_imports.proofs.Turned.{contains_within}
use Rattle.proto_names_imports.proofs.ImportGraph.{import_in, import_of_file, graph_of, targets_twice, within_map}

abbrev pub own_of : List FileImport → List ℕ
own_of is = map (λ i. i.to) is

abbrev pub public_of : List FileImport → List ℕ
public_of is = map (λ i. i.to) (filter (λ i. i.is_public) is)

-- the lists of the files that are imported publicly
public_in : (is : List (List FileImport)) (from to : ℕ) → Contains (get_or (map public_of is) from []) to → (i : Import) × Contains (all_imports 0 is) i × (i.from ≡ from) × (i.to ≡ to) × (i.is_public ≡ true)
public_in is from to c =
    let l : from < length is = let w = contains_within (map public_of is) from to c in omega (arith, w, length-map is public_of) in
    let r = from_map (λ i. i.to) (filter (λ i. i.is_public) (get_or is from [])) to (subst (λ z. Contains z to) (get_or-map public_of is from [] [] l) c) in
    let p = from_filter (λ i. i.is_public) (get_or is from []) r.0 r.1 in
    let z : 0 + from ≡ from = omega arith in
    (import_from (0 + from) r.0, import_of_file 0 from is r.0 p.0, z, r.2, p.1)

public_of_import : (is : List (List FileImport)) (i : Import) → Contains (all_imports 0 is) i → i.is_public ≡ true → Contains (get_or (map public_of is) i.from []) i.to
public_of_import is i c p =
    let r = import_in 0 is i c in
    let k : r.0 ≡ i.from = let q = r.2 in omega (arith, q) in
    let t : r.3.0.to ≡ i.to = ap (λ j. j.to) r.3.2 in
    let q : r.3.0.is_public ≡ true = ap (λ j. j.is_public) r.3.2 ∙ p in
    let d = subst (Contains (public_of (get_or is r.0 []))) t (contains_map (λ i. i.to) (filter (λ i. i.is_public) (get_or is r.0 [])) r.3.0 (contains_filter (λ i. i.is_public) (get_or is r.0 []) r.3.0 r.3.1 q)) in
    subst (λ z. Contains (get_or (map public_of is) z []) i.to) k (subst (λ z. Contains z i.to) (sym (get_or-map public_of is r.0 [] [] r.1)) d)

-- where a walk from a file goes: along its own imports, and the public ones of the others
abbrev pub steps_from : List (List FileImport) → ℕ → List (List ℕ)
steps_from is f = slice_set (map public_of is) f (own_of (get_or is f []))

step_here : (is : List (List FileImport)) (f : ℕ) → f < length is → get_or (steps_from is f) f [] ≡ get_or (map own_of is) f []
step_here is f l = get_or-set_same (map public_of is) f (own_of (get_or is f [])) [] (omega (arith, l, length-map is public_of)) ∙ sym (get_or-map own_of is f [] [] l)

step_there : (is : List (List FileImport)) (f h : ℕ) → h ≢ f → get_or (steps_from is f) h [] ≡ get_or (map public_of is) h []
step_there is f h ne = get_or-set_other (map public_of is) f h (own_of (get_or is f [])) [] ne

walk_reaches : (is : List (List FileImport)) (f : ℕ) → f < length is → {h g : ℕ} → Walks (steps_from is f) h g → Reaches (all_imports 0 is) h g ⊎ Sees (all_imports 0 is) f g
walk_reaches is f l stays = inl here
walk_reaches is f l {h} {g} (goes k c w) = elim (walk_reaches is f l w) [
  | inr s ↦ inr s
  | inl r ↦ elim (cases_eq h f) [
    | inl e ↦
        let i = (graph_of is f k).0 (subst (λ z. Contains z k) (step_here is f l) (subst (λ z. Contains (get_or (steps_from is f) z []) k) e c)) in
        inr (by_import i.0 i.1 i.2 (subst (λ z. Reaches (all_imports 0 is) z g) (sym i.3) r))
    | inr ne ↦
        let i = public_in is h k (subst (λ z. Contains z k) (step_there is f h ne) c) in
        inl (along i.0 i.1 i.2 i.4 (subst (λ z. Reaches (all_imports 0 is) z g) (sym i.3) r))
  ]
]

reach_walks : (is : List (List FileImport)) (f : ℕ) → f < length is → {h g : ℕ} → Reaches (all_imports 0 is) h g → Walks (steps_from is f) h g
reach_walks is f l here = stays
reach_walks is f l {h} {g} (along i c e p r) = goes i.to edge (reach_walks is f l r)
  where
    edge : Contains (get_or (steps_from is f) h []) i.to
    edge = elim (cases_eq h f) [
      | inl same ↦ subst (λ z. Contains (get_or (steps_from is f) z []) i.to) (sym same) (subst (λ z. Contains z i.to) (sym (step_here is f l)) ((graph_of is f i.to).1 (i, c, e ∙ same, refl)))
      | inr ne ↦ subst (λ z. Contains z i.to) (sym (step_there is f h ne)) (subst (λ z. Contains (get_or (map public_of is) z []) i.to) e (public_of_import is i c p))
    ]

sees_from : (imports : List Import) {f g : ℕ} → Reaches imports f g → Sees imports f g
sees_from imports here = itself
sees_from imports (along i c e p r) = by_import i c e r

seen_walks : (is : List (List FileImport)) {f g : ℕ} → f < length is → Sees (all_imports 0 is) f g → Walks (steps_from is f) f g
seen_walks is l itself = stays
seen_walks is {f} l (by_import i c e r) = goes i.to (subst (λ z. Contains z i.to) (sym (step_here is f l)) ((graph_of is f i.to).1 (i, c, e, refl))) (reach_walks is f l r)

pub walk_sees : (is : List (List FileImport)) (f g : ℕ) → f < length is → Walks (steps_from is f) f g ↔ Sees (all_imports 0 is) f g
walk_sees is f g l = (λ w. elim (walk_reaches is f l w) [ inl r ↦ sees_from (all_imports 0 is) r | inr s ↦ s ], seen_walks is l)

-- the marks of that walk are those of what the file sees
pub marks_seen : (is : List (List FileImport)) (w : Workspace) (f : ℕ) (seen : List Bool) → w.files ≡ length is → w.imports ≡ all_imports 0 is → ((i : Import) → Contains (all_imports 0 is) i → i.to < length is) → f < length is
    → ((g : ℕ) → IsMarked seen g ↔ Walks (steps_from is f) f g) → MarksSeen w f seen
marks_seen is w f seen n same within l marks g = go (get_or seen g false) (sees w f g) refl refl
  where
    files : ImportsAreOfFiles w
    files i c =
        let d = subst (λ z. Contains z i) same c in
        let r = import_in 0 is i d in
        let a = within i d in
        let b = r.1 in
        let e = r.2 in
        (omega (arith, n, b, e), omega (arith, n, a))

    yes : IsMarked seen g → sees w f g ≡ true
    yes m = (sees_is w files f g).1 (subst (λ z. Sees z f g) (sym same) ((walk_sees is f g l).0 ((marks g).0 m)))

    back : sees w f g ≡ true → IsMarked seen g
    back s = (marks g).1 ((walk_sees is f g l).1 (subst (λ z. Sees z f g) same ((sees_is w files f g).0 s)))

    go : (a b : Bool) → get_or seen g false ≡ a → sees w f g ≡ b → get_or seen g false ≡ sees w f g
    go true b e h = e ∙ sym (yes e)
    go false false e h = e ∙ sym h
    go false true e h = absurd (both_ways (get_or seen g false) e (back h))

pub set_within : (xs : List (List ℕ)) (f : ℕ) (own : List ℕ) (n : ℕ) → f < length xs → ((k b : ℕ) → Contains (get_or xs k []) b → b < n) → ((b : ℕ) → Contains own b → b < n) → (k b : ℕ) → Contains (get_or (slice_set xs f own) k []) b → b < n
set_within xs f own n l others mine k b c = elim (cases_eq k f) [
  | inl e ↦ mine b (subst (λ z. Contains z b) (get_or-set_same xs f own [] l) (subst (λ z. Contains (get_or (slice_set xs f own) z []) b) e c))
  | inr ne ↦ others k b (subst (λ z. Contains z b) (get_or-set_other xs f k own [] ne) c)
]

-- public imports name no more than all do
pub public_within : {X : Type 0} (f : X → List FileImport) (n : ℕ) (xs : List X) → All (λ v. All (λ i. i.to < n) (f v)) xs → (k b : ℕ) → Contains (get_or (map (λ v. public_of (f v)) xs) k []) b → b < n
public_within f n [] h k b c = absurd (omega (arith, c.1))
public_within f n (x ∷ xs) h zero b c =
    let r = from_map (λ i. i.to) (filter (λ i. i.is_public) (f x)) b c in
    let q = (from_filter (λ i. i.is_public) (f x) r.0 r.1).0 in
    let s = h 0 x (omega arith) q.0 r.0 q.1 in
    let t : (get_or (f x) q.0 r.0).to ≡ b = ap (λ i. i.to) q.2 ∙ r.2 in
    omega (arith, s, t)
public_within f n (x ∷ xs) h (suc k) b c = public_within f n xs (λ j d l. h (suc j) d (omega (arith, l))) k b c

pub public_twice : {X : Type 0} (f : X → List FileImport) (xs : List X) → map (λ v. public_of (f v)) xs ≡ map public_of (map f xs)
public_twice f [] = refl
public_twice f (x ∷ xs) = ap (λ z. public_of (f x) ∷ z) (public_twice f xs)

-- the imports of all files name files
pub imports_within : {X : Type 0} (f : X → List FileImport) (n : ℕ) (xs : List X) → All (λ v. All (λ i. i.to < n) (f v)) xs → (i : Import) → Contains (all_imports 0 (map f xs)) i → i.to < n
imports_within f n xs h i c =
    let g = (graph_of (map f xs) i.from i.to).1 (i, c, refl, refl) in
    within_map f n xs h i.from i.to (subst (λ z. Contains (get_or z i.from []) i.to) (sym (targets_twice f xs)) g)

-- these are the marks of what the file sees, where the imports of so many files are these
abbrev pub MarksSight : ℕ → List (List FileImport) → ℕ → List Bool → Type 0
MarksSight count is file marks = (w : Workspace) → w.files ≡ count → w.imports ≡ all_imports 0 is → MarksSeen w file marks

-- marks of a walk along the imports of a file, and the public ones of the others, are such
pub walk_marks : {X : Type 0} (f : X → List FileImport) (xs : List X) (file : ℕ) (d : X) (own : List FileImport) (marks : List Bool) → file < length xs → All (λ v. All (λ i. i.to < length xs) (f v)) xs → own ≡ f (get_or xs file d)
    → ((g : ℕ) → IsMarked marks g ↔ Walks (slice_set (map (λ v. public_of (f v)) xs) file (own_of own)) file g) → MarksSight (length xs) (map f xs) file marks
walk_marks f xs file d own marks l within is walks w n same =
    let m = length-map xs f in
    let one = is ∙ sym (get_or-map f xs file d [] l) in
    let named : (i : Import) → Contains (all_imports 0 (map f xs)) i → i.to < length (map f xs) = λ i c. (let r = imports_within f (length xs) xs within i c in omega (arith, r, m)) in
    let steps : (g : ℕ) → IsMarked marks g ↔ Walks (steps_from (map f xs) file) file g =
    subst (λ z. (g : ℕ) → IsMarked marks g ↔ Walks (slice_set (map public_of (map f xs)) file (own_of z)) file g) one
    (subst (λ z. (g : ℕ) → IsMarked marks g ↔ Walks (slice_set z file (own_of own)) file g) (public_twice f xs) walks) in
    marks_seen (map f xs) w file marks (n ∙ sym m) same named (omega (arith, l, m)) steps

-- what holds of each list and its number, with a list more
pub pushed : {Y : Type 0} (Q : ℕ → List Y → Type 0) (xs : List (List Y)) (y : List Y) (n : ℕ) → length xs ≡ n → ((k : ℕ) → k < n → Q k (get_or xs k [])) → Q n y → (k : ℕ) → k < n + 1 → Q k (get_or (xs ++ y ∷ []) k [])
pushed Q xs y n len old new k l = elim (cases_eq k n) [
  | inl e ↦
      let z : length xs ≡ k = len ∙ sym e in
      subst (Q k) (sym (ap (λ j. get_or (xs ++ y ∷ []) j []) (sym z) ∙ get_or-append_seam xs y [] [])) (subst (λ j. Q j y) (sym e) new)
  | inr ne ↦ let z : k < n = omega (arith, l, ne) in subst (Q k) (sym (get_or-append xs (y ∷ []) [] k (omega (arith, z, len)))) (old k z)
]
