-- The descriptor of a file with an import more, and with one less, is the old one, mapped.
use Rattle.std.proofs.Common.{◌≡◌, ℕ, suc, ◌+◌, ◌-◌, ◌<◌, ◌≤◌, ◌==◌, ◌||◌, Bool, true, false, if◌then◌else◌, List, [], ◌∷◌, ◌++◌, length, map, flat_map, refl, sym, ◌∙◌, ap, ap₂, arith, append_assoc, nat_lt, All, Contains, bytes_eq, eq-eqb, ne_eqb, append-nil}
use Rattle.proto_base.proofs.Common.{list_any, cond-false, cond-true, nat_tests, flat_map-append, map-append, All-contains, contains_head, contains_later, same_from_word}
use Rattle.proto_text.proofs.OneEdit.{length_map}
use Rattle.proto_tree.proofs.Common.{Move, Tree}
use Rattle.proto_names_outline.proofs.Common.{Wanted, imports_in, move_wanted}
use Rattle.proto_ast.specs.Scenes.{Scene, value}
use Rattle.proto_desc_checks_laws.proofs.MovedParts.{maps_kept}
use Rattle.proto_desc_build.specs.Described.{file_described, places_of, public_places, weak_places}
use Rattle.proto_descriptors.specs.Descriptors.{FileDesc}
use Rattle.proto_edit_statement_described.specs.Common.{AdditionsAreMapped, DropsAreMapped, HasImport, lowered, with_dependencies, places_before, without_place, IsMovedScene}
use Rattle.proto_edit_statement_described.proofs.MovedDescriptors.{imports_alone}
use Rattle.proto_edit_statement_described.proofs.Places.{place_is, without_is}

-- ---- places of imports

-- a mark of imports, which stays where their tokens move
abbrev Stays : (Wanted → Bool) → Type 0
Stays marks = (g : Move) (w : Wanted) → marks (move_wanted g w) ≡ marks w

abbrev is_public : Wanted → Bool
is_public w = w.is_public

abbrev is_weak : Wanted → Bool
is_weak w = w.is_weak

-- the place of one import, where it has the mark
abbrev own : (Wanted → Bool) → ℕ → Wanted → List ℕ
own marks n w = if marks w then n ∷ [] else []

places_moved : (marks : Wanted → Bool) → Stays marks → (g : Move) (n : ℕ) (ws : List Wanted) → places_of marks n (map (move_wanted g) ws) ≡ places_of marks n ws
places_moved marks stays g n [] = refl
places_moved marks stays g n (w ∷ ws) = ap₂ (λ (b : Bool) (z : List ℕ). (if b then n ∷ [] else []) ++ z) (stays g w) (places_moved marks stays g (suc n) ws)

pub publics_moved : (g : Move) (n : ℕ) (ws : List Wanted) → public_places n (map (move_wanted g) ws) ≡ public_places n ws
publics_moved = places_moved is_public (λ g w. refl)

pub weaks_moved : (g : Move) (n : ℕ) (ws : List Wanted) → weak_places n (map (move_wanted g) ws) ≡ weak_places n ws
weaks_moved = places_moved is_weak (λ g w. refl)

from_zero : (n : ℕ) → 0 + n ≡ n
from_zero n = omega arith

-- those of more imports
places_append : (marks : Wanted → Bool) (n : ℕ) (xs ys : List Wanted) → places_of marks n (xs ++ ys) ≡ places_of marks n xs ++ places_of marks (n + length xs) ys
places_append marks n [] ys = let e : n ≡ n + 0 = omega arith in ap (λ m. places_of marks m ys) e
places_append marks n (x ∷ xs) ys =
    let e : suc n + length xs ≡ n + suc (length xs) = omega arith in
    ap (λ (z : List ℕ). own marks n x ++ z) (places_append marks (suc n) xs ys ∙ ap (λ m. places_of marks (suc n) xs ++ places_of marks m ys) e)
    ∙ sym (append_assoc (own marks n x) (places_of marks (suc n) xs) (places_of marks (n + suc (length xs)) ys))

-- ---- a place goes

abbrev low : ℕ → ℕ → List ℕ
low n p = if p == n then [] else (if nat_lt n p then (p - 1) ∷ [] else p ∷ [])

low_same : (n : ℕ) → low n n ≡ []
low_same n = cond-true (n == n) [] (if nat_lt n n then (n - 1) ∷ [] else n ∷ []) (eq-eqb n n refl)

low_before : (n p : ℕ) → p < n → low n p ≡ p ∷ []
low_before n p lt =
    let no : nat_lt n p ≡ false = grind (arith, nat_tests) in
    cond-false (p == n) [] (if nat_lt n p then (p - 1) ∷ [] else p ∷ []) (ne_eqb p n (λ e. absurd (omega (arith, lt, e)))) ∙ cond-false (nat_lt n p) ((p - 1) ∷ []) (p ∷ []) no

low_behind : (n p : ℕ) → n ≤ p → low n (suc p) ≡ p ∷ []
low_behind n p le =
    let yes : nat_lt n (suc p) ≡ true = grind (arith, nat_tests) in
    let e : suc p - 1 ≡ p = omega arith in
    cond-false (suc p == n) [] (if nat_lt n (suc p) then (suc p - 1) ∷ [] else suc p ∷ []) (ne_eqb (suc p) n (λ q. absurd (omega (arith, le, q))))
    ∙ cond-true (nat_lt n (suc p)) ((suc p - 1) ∷ []) (suc p ∷ []) yes ∙ ap (λ m. m ∷ []) e

lowered_before : (marks : Wanted → Bool) (n k : ℕ) (ws : List Wanted) → k + length ws ≤ n → lowered n (places_of marks k ws) ≡ places_of marks k ws
lowered_before marks n k [] le = refl
lowered_before marks n k (w ∷ ws) le =
    flat_map-append (low n) (own marks k w) (places_of marks (suc k) ws) ∙ ap₂ (λ (y z : List ℕ). y ++ z) (one (marks w)) (lowered_before marks n (suc k) ws (omega (arith, le)))
  where
    one : (b : Bool) → flat_map (low n) (if b then k ∷ [] else []) ≡ (if b then k ∷ [] else [])
    one true = ap (λ (z : List ℕ). z ++ []) (low_before n k (omega (arith, le)))
    one false = refl

lowered_behind : (marks : Wanted → Bool) (n k : ℕ) (ws : List Wanted) → n ≤ k → lowered n (places_of marks (suc k) ws) ≡ places_of marks k ws
lowered_behind marks n k [] le = refl
lowered_behind marks n k (w ∷ ws) le =
    flat_map-append (low n) (own marks (suc k) w) (places_of marks (suc (suc k)) ws) ∙ ap₂ (λ (y z : List ℕ). y ++ z) (one (marks w)) (lowered_behind marks n (suc k) ws (omega (arith, le)))
  where
    one : (b : Bool) → flat_map (low n) (if b then suc k ∷ [] else []) ≡ (if b then k ∷ [] else [])
    one true = ap (λ (z : List ℕ). z ++ []) (low_behind n k le)
    one false = refl

lowered_same : (marks : Wanted → Bool) (n : ℕ) (w : Wanted) → lowered n (own marks n w) ≡ []
lowered_same marks n w = one (marks w)
  where
    one : (b : Bool) → flat_map (low n) (if b then n ∷ [] else []) ≡ []
    one true = ap (λ (z : List ℕ). z ++ []) (low_same n)
    one false = refl

-- ---- the two laws

none_is : (path : List ℕ) (a : Scene) (ws : List Wanted) → All (λ (v : Wanted). bytes_eq path (value a v.path) ≡ false) ws → list_any (bytes_eq path) (map (λ (v : Wanted). value a v.path) ws) ≡ false
none_is path a ws all = go ws (λ v c. All-contains (λ (v : Wanted). bytes_eq path (value a v.path) ≡ false) ws v all c)
  where
    go : (ws : List Wanted) → ((v : Wanted) → Contains ws v → bytes_eq path (value a v.path) ≡ false) → list_any (bytes_eq path) (map (λ (v : Wanted). value a v.path) ws) ≡ false
    go [] h = refl
    go (w ∷ ws) h = ap₂ (λ b c. b || c) (h w (contains_head w ws)) (go ws (λ v c. h v (contains_later w v ws c)))

module _ (g : Move) (a b : Scene) (w : Wanted) (s t : Tree) (scenes : IsMovedScene g a b) (i : HasImport g w s t) where
  abbrev path_a : Wanted → List ℕ
  path_a v = value a v.path

  abbrev path_b : Wanted → List ℕ
  path_b v = value b v.path

  kept : (ws : List Wanted) → map path_b (map (move_wanted g) ws) ≡ map path_a ws
  kept ws = maps_kept (move_wanted g) path_a path_b (λ v. scenes.same.strings v.path) ws

  pub paths_were : map path_a (imports_in s) ≡ map path_a i.front ++ map path_a i.back
  paths_were = ap (map path_a) i.was ∙ map-append path_a i.front i.back

  pub paths_are : map path_b (imports_in t) ≡ map path_a i.front ++ value b w.path ∷ map path_a i.back
  paths_are =
      ap (map path_b) i.is ∙ map-append path_b (map (move_wanted g) i.front) (w ∷ map (move_wanted g) i.back)
      ∙ ap₂ (λ (y z : List (List ℕ)). y ++ value b w.path ∷ z) (kept i.front) (kept i.back)

  places_are : (marks : Wanted → Bool) → Stays marks → places_of marks 0 (imports_in t) ≡ places_of marks 0 i.front ++ (own marks (length i.front) w ++ places_of marks (suc (length i.front)) i.back)
  places_are marks stays =
      ap (places_of marks 0) i.is ∙ places_append marks 0 (map (move_wanted g) i.front) (w ∷ map (move_wanted g) i.back)
      ∙ ap₂ (λ (y : List ℕ) (n : ℕ). y ++ (own marks n w ++ places_of marks (suc n) (map (move_wanted g) i.back))) (places_moved marks stays g 0 i.front) (from_zero (length (map (move_wanted g) i.front)) ∙ length_map (move_wanted g) i.front)
      ∙ ap (λ (z : List ℕ). places_of marks 0 i.front ++ (own marks (length i.front) w ++ z)) (places_moved marks stays g (suc (length i.front)) i.back)

  -- an import more at the end, which has not the mark
  pub places_more : (marks : Wanted → Bool) → Stays marks → i.back ≡ [] → marks w ≡ false → places_of marks 0 (imports_in t) ≡ places_of marks 0 (imports_in s)
  places_more marks stays last not =
      let front : imports_in s ≡ i.front = i.was ∙ ap (λ (ws : List Wanted). i.front ++ ws) last ∙ append-nil i.front in
      places_are marks stays ∙ ap₂ (λ (p : Bool) (ws : List Wanted). places_of marks 0 i.front ++ ((if p then length i.front ∷ [] else []) ++ places_of marks (suc (length i.front)) ws)) not last
      ∙ append-nil (places_of marks 0 i.front) ∙ sym (ap (places_of marks 0) front)

  -- an import less
  pub places_less : (marks : Wanted → Bool) → Stays marks → lowered (length i.front) (places_of marks 0 (imports_in t)) ≡ places_of marks 0 (imports_in s)
  places_less marks stays =
      let n : ℕ = length i.front in
      ap (lowered n) (places_are marks stays)
      ∙ flat_map-append (low n) (places_of marks 0 i.front) (own marks n w ++ places_of marks (suc n) i.back)
      ∙ ap₂ (λ (y z : List ℕ). y ++ z) (lowered_before marks n 0 i.front (omega arith))
      (flat_map-append (low n) (own marks n w) (places_of marks (suc n) i.back) ∙ ap₂ (λ (y z : List ℕ). y ++ z) (lowered_same marks n w) (lowered_behind marks n n i.back (omega arith)))
      ∙ sym (ap (places_of marks 0) i.was ∙ places_append marks 0 i.front i.back ∙ ap (λ m. places_of marks 0 i.front ++ places_of marks m i.back) (from_zero (length i.front)))

pub additions_are_mapped : AdditionsAreMapped
additions_are_mapped g a b path w s t scenes i last private strong =
    let paths : map (λ (v : Wanted). value b v.path) (imports_in t) ≡ map (λ (v : Wanted). value a v.path) (imports_in s) ++ value b w.path ∷ [] =
    paths_are g a b w s t scenes i ∙ ap (λ (ws : List Wanted). map (λ (v : Wanted). value a v.path) i.front ++ value b w.path ∷ map (λ (v : Wanted). value a v.path) ws) last
    ∙ ap (λ (z : List (List ℕ)). z ++ value b w.path ∷ []) (sym (paths_were g a b w s t scenes i ∙ ap (λ (ws : List Wanted). map (λ (v : Wanted). value a v.path) i.front ++ map (λ (v : Wanted). value a v.path) ws) last ∙ append-nil (map (λ (v : Wanted). value a v.path) i.front))) in
    let publics : public_places 0 (imports_in t) ≡ public_places 0 (imports_in s) = places_more g a b w s t scenes i is_public (λ g w. refl) last private in
    let weaks : weak_places 0 (imports_in t) ≡ weak_places 0 (imports_in s) = places_more g a b w s t scenes i is_weak (λ g w. refl) last strong in
    imports_alone g a b path s t scenes i.others ∙ (λ k. with_dependencies (paths k) (publics k) (weaks k) (file_described a path s))

pub drops_are_mapped : DropsAreMapped
drops_are_mapped g a b path w s t scenes i others =
    let front : List (List ℕ) = map (λ (v : Wanted). value a v.path) i.front in
    let back : List (List ℕ) = map (λ (v : Wanted). value a v.path) i.back in
    let gone : List ℕ = value b w.path in
    let now : List (List ℕ) = map (λ (v : Wanted). value b v.path) (imports_in t) in
    let n : ℕ = length i.front in
    let at : places_before (bytes_eq gone) now ≡ n =
    ap (places_before (bytes_eq gone)) (paths_are g a b w s t scenes i) ∙ place_is (bytes_eq gone) front gone back (none_is gone a i.front others) (same_from_word gone gone refl) ∙ length_map (λ (v : Wanted). value a v.path) i.front in
    let paths : without_place (places_before (bytes_eq gone) now) now ≡ map (λ (v : Wanted). value a v.path) (imports_in s) =
    ap₂ (λ m (z : List (List ℕ)). without_place m z) (at ∙ sym (length_map (λ (v : Wanted). value a v.path) i.front)) (paths_are g a b w s t scenes i) ∙ without_is front gone back ∙ sym (paths_were g a b w s t scenes i) in
    let publics : lowered (places_before (bytes_eq gone) now) (public_places 0 (imports_in t)) ≡ public_places 0 (imports_in s) =
    ap (λ m. lowered m (public_places 0 (imports_in t))) at ∙ places_less g a b w s t scenes i is_public (λ g w. refl) in
    let weaks : lowered (places_before (bytes_eq gone) now) (weak_places 0 (imports_in t)) ≡ weak_places 0 (imports_in s) =
    ap (λ m. lowered m (weak_places 0 (imports_in t))) at ∙ places_less g a b w s t scenes i is_weak (λ g w. refl) in
    let whole = imports_alone g a b path s t scenes i.others in
    sym (ap (λ (d : FileDesc). with_dependencies (without_place (places_before (bytes_eq gone) now) now) (lowered (places_before (bytes_eq gone) now) (public_places 0 (imports_in t))) (lowered (places_before (bytes_eq gone) now) (weak_places 0 (imports_in t))) d) whole
    ∙ (λ k. with_dependencies (paths k) (publics k) (weaks k) (file_described a path s)))
