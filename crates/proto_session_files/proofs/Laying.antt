-- A file laid over others, by one place.
use Rattle.std.proofs.Common.{◌≡◌, ℕ, zero, suc, ◌<◌, ◌≤◌, Bool, true, false, List, [], ◌∷◌, ◌++◌, length, map, take, drop, Option, String, Global, refl, sym, ap, ◌∙◌, arith, inl, inr}
use Rattle.std.specs.Cmp.Lexicographic.{slice_cmp}
use Rattle.std.specs.List.{insert, remove}
use Rattle.std.specs.Ordering.{is_eq, match_ordering, nat_cmp}
use Rattle.std.specs.Str.{bytes_eq}
use Rattle.std.specs.declared.cmp.Ordering.{Ordering}
use Rattle.std.specs.declared.cmp.Ordering.TheVariants.{Less, Equal, Greater}
use Rattle.std.proofs.lemmas.Map.Text.{is_eq-slice_cmp}
use Rattle.std.specs.Option.{option_map_or}
use Rattle.proto_base.proofs.Common.{Vec, cases_lt, length-map, same_from_word, slice_get_past, word_from_same}
use Rattle.proto_base.specs.GivenFiles.{FileOf, file_of, files_of}
use Rattle.proto_base.specs.Texts.{Path}
use Rattle.proto_session_files.specs.Seeing.{is_there, place_for}
use Rattle.proto_session_files.specs.Views.{laid}

-- the files with one more at a place, or in the place of the one there
abbrev pub laid_by : Bool → ℕ → FileOf → List FileOf → List FileOf
laid_by true n f gs = take n gs ++ f ∷ drop (suc n) gs
laid_by false n f gs = take n gs ++ f ∷ drop n gs

-- behind another file it is laid at the next place
one_more : (there : Bool) (n : ℕ) (f g : FileOf) (gs : List FileOf) → g ∷ laid_by there n f gs ≡ laid_by there (suc n) f (g ∷ gs)
one_more true n f g gs = refl
one_more false n f g gs = refl

-- one turn, by how the paths compare
turn : (o : Ordering) (f g : FileOf) (gs : List FileOf) → bytes_eq g.path f.path ≡ is_eq o
    → laid f gs ≡ laid_by (is_there f.path (place_for f.path gs) gs) (place_for f.path gs) f gs
    → match_ordering o (f ∷ g ∷ gs) (f ∷ gs) (g ∷ laid f gs)
    ≡ laid_by (is_there f.path (match_ordering o 0 0 (suc (place_for f.path gs))) (g ∷ gs)) (match_ordering o 0 0 (suc (place_for f.path gs))) f (g ∷ gs)
turn Less f g gs e before = sym (ap (λ b. laid_by b 0 f (g ∷ gs)) e)
turn Equal f g gs e before = sym (ap (λ b. laid_by b 0 f (g ∷ gs)) e)
turn Greater f g gs e before = ap (λ fs. g ∷ fs) before ∙ one_more (is_there f.path (place_for f.path gs) gs) (place_for f.path gs) f g gs

-- equal paths compare as equal
pub swapped : (p q : List ℕ) (a b : Bool) → bytes_eq q p ≡ a → bytes_eq p q ≡ b → a ≡ b
swapped p q true true e f = refl
swapped p q false false e f = refl
swapped p q true false e f = sym (same_from_word p q (sym (word_from_same q p e))) ∙ f
swapped p q false true e f = sym e ∙ same_from_word q p (sym (word_from_same p q f))

pub same_paths : (p q : List ℕ) → bytes_eq q p ≡ is_eq (slice_cmp nat_cmp p q)
same_paths p q = swapped p q (bytes_eq q p) (bytes_eq p q) refl refl ∙ sym (is_eq-slice_cmp p q)

pub laid_is : (f : FileOf) (gs : List FileOf) → laid f gs ≡ laid_by (is_there f.path (place_for f.path gs) gs) (place_for f.path gs) f gs
laid_is f [] = refl
laid_is f (g ∷ gs) = turn (slice_cmp nat_cmp f.path g.path) f g gs (same_paths f.path g.path) (laid_is f gs)

-- one is put where one was taken away
pub put_back : {X : Type 0} (i : ℕ) (xs : List X) (x : X) → i < length xs → insert (remove xs i) i x ≡ take i xs ++ x ∷ drop (suc i) xs
put_back zero [] x lt = absurd (omega (arith, lt))
put_back (suc i) [] x lt = absurd (omega (arith, lt))
put_back zero (y ∷ xs) x lt = refl
put_back (suc i) (y ∷ xs) x lt = ap (λ (zs : List _). y ∷ zs) (put_back i xs x (omega (arith, lt)))

-- what is put is seen as it is put
pub seen_put : {X Y : Type 0} (f : X → Y) (i : ℕ) (xs : List X) (x : X) → map f (insert xs i x) ≡ take i (map f xs) ++ f x ∷ drop i (map f xs)
seen_put f zero xs x = refl
seen_put f (suc i) [] x = refl
seen_put f (suc i) (y ∷ xs) x = ap (λ (zs : List _). f y ∷ zs) (seen_put f i xs x)

pub seen_put_back : {X Y : Type 0} (f : X → Y) (i : ℕ) (xs : List X) (x : X) → i < length xs → map f (insert (remove xs i) i x) ≡ take i (map f xs) ++ f x ∷ drop (suc i) (map f xs)
seen_put_back f zero [] x lt = absurd (omega (arith, lt))
seen_put_back f (suc i) [] x lt = absurd (omega (arith, lt))
seen_put_back f zero (y ∷ xs) x lt = refl
seen_put_back f (suc i) (y ∷ xs) x lt = ap (λ (zs : List _). f y ∷ zs) (seen_put_back f i xs x (omega (arith, lt)))

-- ---- where it is laid

-- no further than behind all
pub place_within : (path : Path) (fs : List FileOf) → place_for path fs ≤ length fs
place_within path [] = omega arith
place_within path (f ∷ fs) = by (slice_cmp nat_cmp path f.path) (place_within path fs)
  where
    by : (o : Ordering) → place_for path fs ≤ length fs → match_ordering o 0 0 (suc (place_for path fs)) ≤ length (f ∷ fs)
    by Less le = omega arith
    by Equal le = omega arith
    by Greater le = omega (arith, le)

-- where a file is, there is a place
pub there_within : (path : Path) (n : ℕ) (fs : List FileOf) → is_there path n fs ≡ true → n < length fs
there_within path n fs e = elim (cases_lt n (length fs)) [
  | inl lt ↦ lt
  | inr past ↦ absurd (differ (ap (λ (o : Option FileOf). option_map_or (λ g. bytes_eq g.path path) o false) (sym (slice_get_past fs n past)) ∙ e))
]
  where
    differ : false ≡ true → ⊥
    differ h = cc

at_place : (b : Bool) (f : FileOf) (gs : List FileOf) (n : ℕ) → n ≡ place_for f.path gs → is_there f.path n gs ≡ b → laid f gs ≡ laid_by b n f gs
at_place b f gs n at e =
    laid_is f gs
    ∙ ap (λ (m : ℕ). laid_by (is_there f.path m gs) m f gs) (sym at)
    ∙ ap (λ (c : Bool). laid_by c n f gs) e

module _ (xs : List (String Global × Vec ℕ)) (x : String Global × Vec ℕ) (n : ℕ) (at : n ≡ place_for (file_of x).path (files_of xs)) where
  -- a file in the place of the one at its path
  pub laid_there : is_there (file_of x).path n (files_of xs) ≡ true → files_of (insert (remove xs n) n x) ≡ laid (file_of x) (files_of xs)
  laid_there e =
      let lt = there_within (file_of x).path n (files_of xs) e in
      let len : length (files_of xs) ≡ length xs = length-map xs file_of in
      seen_put_back file_of n xs x (omega (arith, lt, len)) ∙ sym (at_place true (file_of x) (files_of xs) n at e)

  -- a file between others
  pub laid_between : is_there (file_of x).path n (files_of xs) ≡ false → files_of (insert xs n x) ≡ laid (file_of x) (files_of xs)
  laid_between e = seen_put file_of n xs x ∙ sym (at_place false (file_of x) (files_of xs) n at e)
