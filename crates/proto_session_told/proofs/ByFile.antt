-- How what is shown is parted by files, and told of file by file.
use Rattle.std.proofs.Common.{◌≡◌, ◌==◌, ℕ, suc, ◌+◌, ◌<◌, Bool, true, false, List, [], ◌∷◌, ◌++◌, length, take, drop, refl, sym, subst, ap, ◌∙◌, inl, inr, arith, append_assoc, append-nil, true≢false}
use Rattle.proto_base.proofs.Common.{Decides-eqb, cases_lt, cond-false, cond-true, prefix_len, same_from_word, word_from_same}
use Rattle.proto_base.specs.Texts.{Path}
use Rattle.proto_session_files.specs.Views.{ViewOf}
use Rattle.proto_session_told.specs.Runs.{is_of_path, run_len}
use Rattle.proto_session_told.specs.Shown.{ShownOf, onto_runs, runs}
use Rattle.proto_session_told.specs.Telling.{AreTellings, IsTellingOf, ToldOf}

-- how many behind the first have its path
abbrev more : ShownOf → List ShownOf → ℕ
more x xs = prefix_len (is_of_path x.path) xs

-- the first run, and those behind it
abbrev AreParted : ShownOf → List ShownOf → Type 0
AreParted x xs = runs (x ∷ xs) ≡ (x ∷ take (more x xs) xs) ∷ runs (drop (more x xs) xs)

turn : (b : Bool) (x y : ShownOf) (ys : List ShownOf) → is_of_path x.path y ≡ b → AreParted y ys → AreParted x (y ∷ ys)
turn true x y ys same before =
    let next : 1 + more y ys ≡ suc (more y ys) = omega arith in
    let long : more x (y ∷ ys) ≡ suc (more y ys) =
    cond-true (is_of_path x.path y) (1 + more x ys) 0 same
    ∙ ap (λ (p : Path). 1 + prefix_len (is_of_path p) ys) (sym (word_from_same y.path x.path same))
    ∙ next in
    ap (onto_runs x) before
    ∙ cond-true (is_of_path x.path y) ((x ∷ y ∷ take (more y ys) ys) ∷ runs (drop (more y ys) ys)) ((x ∷ []) ∷ (y ∷ take (more y ys) ys) ∷ runs (drop (more y ys) ys)) same
    ∙ ap (λ (n : ℕ). (x ∷ take n (y ∷ ys)) ∷ runs (drop n (y ∷ ys))) (sym long)
turn false x y ys other before =
    let none : more x (y ∷ ys) ≡ 0 = cond-false (is_of_path x.path y) (1 + more x ys) 0 other in
    ap (onto_runs x) before
    ∙ cond-false (is_of_path x.path y) ((x ∷ y ∷ take (more y ys) ys) ∷ runs (drop (more y ys) ys)) ((x ∷ []) ∷ (y ∷ take (more y ys) ys) ∷ runs (drop (more y ys) ys)) other
    ∙ ap (λ (rs : List (List ShownOf)). (x ∷ []) ∷ rs) (sym before)
    ∙ ap (λ (n : ℕ). (x ∷ take n (y ∷ ys)) ∷ runs (drop n (y ∷ ys))) (sym none)

are_parted : (x : ShownOf) (xs : List ShownOf) → AreParted x xs
are_parted x [] = refl
are_parted x (y ∷ ys) = turn (is_of_path x.path y) x y ys refl (are_parted y ys)

run_len_is : (x : ShownOf) (xs : List ShownOf) → run_len (x ∷ xs) ≡ suc (more x xs)
run_len_is x xs =
    let next : 1 + more x xs ≡ suc (more x xs) = omega arith in
    cond-true (is_of_path x.path x) (1 + more x xs) 0 (same_from_word x.path x.path refl) ∙ next

-- the first run is as long as the code counts
by_first : (all : List ShownOf) → 0 < length all → runs all ≡ take (run_len all) all ∷ runs (drop (run_len all) all)
by_first [] some = absurd (omega (arith, some))
by_first (x ∷ xs) some = are_parted x xs ∙ ap (λ (n : ℕ). take n (x ∷ xs) ∷ runs (drop n (x ∷ xs))) (sym (run_len_is x xs))

pub has_first : (all : List ShownOf) → 0 < length all → 0 < run_len all
has_first [] some = absurd (omega (arith, some))
has_first (x ∷ xs) some = let e = run_len_is x xs in omega (arith, e)

-- ---- what is told so far

-- what is told of the first runs, and what is left of all that is shown
pub record AreToldSoFar (v : ViewOf) (all rest : List ShownOf) (told : List ToldOf) : Type 0 where
  pub done : List (List ShownOf)
  pub parted : done ++ runs rest ≡ runs all
  pub are_told : AreTellings v done told

told_too : (v : ViewOf) (done : List (List ShownOf)) (told : List ToldOf) (run : List ShownOf) (t : ToldOf) → AreTellings v done told → IsTellingOf v run t → AreTellings v (done ++ run ∷ []) (told ++ t ∷ [])
told_too v [] [] run t before is = (is, tt)
told_too v [] (u ∷ told) run t before is = absurd before
told_too v (r ∷ done) [] run t before is = absurd before
told_too v (r ∷ done) (u ∷ told) run t before is = (before.0, told_too v done told run t before.1 is)

pub none_told : (v : ViewOf) (all : List ShownOf) → AreToldSoFar v all all []
none_told v all = record { done = []; parted = refl; are_told = tt }

-- the first run of what is left is told too
pub more_told : (v : ViewOf) (all rest run after : List ShownOf) (told next : List ToldOf) (t : ToldOf) → 0 < length rest
    → run ≡ take (run_len rest) rest → after ≡ drop (run_len rest) rest → IsTellingOf v run t → next ≡ told ++ t ∷ []
    → AreToldSoFar v all rest told → AreToldSoFar v all after next
more_told v all rest run after told next t some front back is new before = record {
  done = before.done ++ run ∷ [];
  parted = append_assoc before.done (run ∷ []) (runs after)
      ∙ ap (λ (rs : List (List ShownOf)). before.done ++ rs)
      (ap (λ (r : List ShownOf). r ∷ runs after) front
      ∙ ap (λ (left : List ShownOf). take (run_len rest) rest ∷ runs left) back
      ∙ sym (by_first rest some))
      ∙ before.parted;
  are_told = subst (AreTellings v (before.done ++ run ∷ [])) (sym new) (told_too v before.done told run t before.are_told is);
}

pub all_told : (v : ViewOf) (all rest : List ShownOf) (told : List ToldOf) → rest ≡ [] → AreToldSoFar v all rest told → AreTellings v (runs all) told
all_told v all rest told none before =
    subst (λ (rs : List (List ShownOf)). AreTellings v rs told)
    (sym (append-nil before.done) ∙ ap (λ (left : List ShownOf). before.done ++ runs left) (sym none) ∙ before.parted)
    before.are_told

-- ---- whether anything is left

pub some_left : (none : Bool) (n : ℕ) → none ≡ (n == 0) → none ≡ false → 0 < n
some_left none n is e = elim (cases_lt 0 n) [
  | inl lt ↦ lt
  | inr le ↦ absurd (true≢false (sym ((Decides-eqb n 0).1 (omega (arith, le))) ∙ (sym is ∙ e)))
]

pub none_left : (none : Bool) (n : ℕ) → none ≡ (n == 0) → none ≡ true → n ≡ 0
none_left none n is e = (Decides-eqb n 0).0 (sym is ∙ e)
