-- Each file is told of once, in the order of the paths.
use Rattle.std.proofs.Common.{◌≡◌, ◌≢◌, ℕ, suc, ◌<◌, ◌≤◌, Bool, true, false, cond, List, [], ◌∷◌, length, get_or, map, nat_cmp, refl, sym, ap, ◌∙◌, subst, arith, inl, inr, All, AllPairs, bytes_eq, true≢false}
use Rattle.std.specs.Ordering.{ordering_then}
use Rattle.proto_base.proofs.Common.{All-cons, All-head, All-map, All-nil, All-tail, AllPairs-cons, Greater, Less, Ordering, kind_number, nat_cmp_total, nat_list_cmp_total, ordering_reverse, phase_of, same_from_word, tied_itself, word_from_same}
use Rattle.proto_base.specs.GivenFiles.{FileOf}
use Rattle.proto_base.specs.Texts.{Path}
use Rattle.proto_files.specs.Faults.{ComesBefore, FaultAt}
use Rattle.proto_files.specs.WorkspacePaths.{IsBefore, path_cmp}
use Rattle.proto_files.proofs.PathOrder.{before_from_sides, before_trans}
use Rattle.proto_lint_names.specs.Listings.{FindingOf, finding_cmp}
use Rattle.proto_lint_rules.specs.Rules.{identifier}
use Rattle.proto_all_faults.specs.Laws.{AreAllFaults}
use Rattle.proto_session_told.specs.Laws.{FilesAreToldOnce}
use Rattle.proto_session_told.specs.Runs.{is_of_path}
use Rattle.proto_session_told.specs.Shown.{ShownOf, onto_runs, runs, shown_fault, shown_finding}
use Rattle.proto_session_told.specs.Telling.{path_of_run}

-- none of these is shown of a file before the path
abbrev NoneBefore : Path → List ShownOf → Type 0
NoneBefore path xs = All (λ y. IsBefore y.path path → ⊥) xs

-- none is shown of a file before that of an earlier one
abbrev Rises : List ShownOf → Type 0
Rises [] = Unit {0}
Rises (x ∷ xs) = NoneBefore x.path xs × Rises xs

-- ---- by file

abbrev IsBelow : List ShownOf → List ShownOf → Type 0
IsBelow a b = IsBefore (path_of_run a) (path_of_run b)

-- lists, none of which is empty, of files in the order of their paths
abbrev RunsRise : List (List ShownOf) → Type 0
RunsRise [] = Unit {0}
RunsRise (r ∷ rs) = (r ≢ []) × All (IsBelow r) rs × RunsRise rs

not_empty : (x : ShownOf) (xs : List ShownOf) → (x ∷ xs) ≢ []
not_empty x xs e = cc

-- what holds of the paths of all holds of those of the lists
onto_all : (P : Path → Type 0) (x : ShownOf) (rs : List (List ShownOf)) → P x.path → All (λ r. P (path_of_run r)) rs → All (λ r. P (path_of_run r)) (onto_runs x rs)
onto_all P x [] p all = All-cons (λ r. P (path_of_run r)) (x ∷ []) [] p (All-nil (λ r. P (path_of_run r)))
onto_all P x ([] ∷ rs) p all = All-cons (λ r. P (path_of_run r)) (x ∷ []) rs p (All-tail (λ r. P (path_of_run r)) [] rs all)
onto_all P x ((y ∷ ys) ∷ rs) p all = go (bytes_eq y.path x.path)
  where
    go : (b : Bool) → All (λ r. P (path_of_run r)) (cond b ((x ∷ y ∷ ys) ∷ rs) ((x ∷ []) ∷ (y ∷ ys) ∷ rs))
    go true = All-cons (λ r. P (path_of_run r)) (x ∷ y ∷ ys) rs p (All-tail (λ r. P (path_of_run r)) (y ∷ ys) rs all)
    go false = All-cons (λ r. P (path_of_run r)) (x ∷ []) ((y ∷ ys) ∷ rs) p all

all_runs : (P : Path → Type 0) (xs : List ShownOf) → All (λ x. P x.path) xs → All (λ r. P (path_of_run r)) (runs xs)
all_runs P [] all = All-nil (λ r. P (path_of_run r))
all_runs P (x ∷ xs) all = onto_all P x (runs xs) (All-head (λ y. P y.path) x xs all) (all_runs P xs (All-tail (λ y. P y.path) x xs all))

onto_rise : (x : ShownOf) (rs : List (List ShownOf)) → All (λ r. IsBefore (path_of_run r) x.path → ⊥) rs → RunsRise rs → RunsRise (onto_runs x rs)
onto_rise x [] none rise = (not_empty x [], All-nil (IsBelow (x ∷ [])), tt)
onto_rise x ([] ∷ rs) none rise = absurd (rise.0 refl)
onto_rise x ((y ∷ ys) ∷ rs) none rise = go (bytes_eq y.path x.path) refl
  where
    go : (b : Bool) → is_of_path x.path y ≡ b → RunsRise (cond b ((x ∷ y ∷ ys) ∷ rs) ((x ∷ []) ∷ (y ∷ ys) ∷ rs))
    go true e = (not_empty x (y ∷ ys), λ k d lt. subst (λ (p : Path). IsBefore p (path_of_run (get_or rs k d))) (word_from_same y.path x.path e) (rise.1 k d lt), rise.2)
    go false e =
        let first : IsBefore x.path y.path = before_from_sides x.path y.path (All-head (λ r. IsBefore (path_of_run r) x.path → ⊥) (y ∷ ys) rs none) (λ same. true≢false (sym (same_from_word y.path x.path (sym same)) ∙ e)) in
        (not_empty x [], All-cons (IsBelow (x ∷ [])) (y ∷ ys) rs first (λ k d lt. before_trans x.path y.path (path_of_run (get_or rs k d)) first (rise.1 k d lt)), rise)

runs_rise : (xs : List ShownOf) → Rises xs → RunsRise (runs xs)
runs_rise [] rise = tt
runs_rise (x ∷ xs) rise = onto_rise x (runs xs) (all_runs (λ p. IsBefore p x.path → ⊥) xs rise.0) (runs_rise xs rise.1)

in_order : (rs : List (List ShownOf)) → RunsRise rs → AllPairs IsBelow rs
in_order [] rise = λ i j d lt within. absurd (omega (arith, within))
in_order (r ∷ rs) rise = AllPairs-cons IsBelow r rs rise.1 (in_order rs rise.2)

-- ---- faults and findings

-- what is shown rises as what it is shown of
shown_rise : {A : Type 0} (f : A → ShownOf) (R : A → A → Type 0) → ((x y : A) → R x y → IsBefore (f y).path (f x).path → ⊥) → (xs : List A) → AllPairs R xs → Rises (map f xs)
shown_rise f R say [] pairs = tt
shown_rise f R say (x ∷ xs) pairs = (
  All-map (λ y. IsBefore y.path (f x).path → ⊥) f xs (λ k d lt. say x (get_or xs k d) (pairs 0 (suc k) d (omega arith) (omega (arith, lt)))),
  shown_rise f R say xs (λ i j d lt within. pairs (suc i) (suc j) d (omega (arith, lt)) (omega (arith, within))),
)

-- of two where the first is less, by path and then by more, the second is of no path before
not_back : (p q : Path) (more : Ordering) → ordering_then (path_cmp p q) more ≡ Less → IsBefore q p → ⊥
not_back p q more e back = differ (sym (ap (λ (o : Ordering). ordering_then o more) (nat_list_cmp_total.antisymm p q ∙ ap ordering_reverse back)) ∙ e)
  where
    differ : Greater ≡ Less → ⊥
    differ h = cc

abbrev IsNext : FaultAt → FaultAt → Type 0
IsNext x y = (ComesBefore x y) × (phase_of x.kind ≡ phase_of y.kind)

faults_rise : (x y : FaultAt) → IsNext x y → IsBefore y.path x.path → ⊥
faults_rise x y next back =
    let at : Ordering = ordering_then (nat_cmp x.offset y.offset) (nat_cmp (kind_number x.kind) (kind_number y.kind)) in
    let tied : nat_cmp (phase_of x.kind) (phase_of y.kind) ≡ nat_cmp (phase_of x.kind) (phase_of x.kind) = ap (λ (n : ℕ). nat_cmp (phase_of x.kind) n) (sym next.1) in
    not_back x.path y.path at
    (sym (ap (λ (o : Ordering). ordering_then o (ordering_then (path_cmp x.path y.path) at)) (tied ∙ tied_itself nat_cmp_total (phase_of x.kind))) ∙ next.0)
    back

module _ (files : List FileOf) (listed : List FaultAt) (all : AreAllFaults files listed) where
  one_phase : (i j : ℕ) (d : FaultAt) → i < length listed → j < length listed → phase_of (get_or listed i d).kind ≡ phase_of (get_or listed j d).kind
  one_phase i j d here there =
      let x = get_or listed i d in
      let y = get_or listed j d in
      let first = all.sound i d here in
      let second = all.sound j d there in
      let under : phase_of x.kind ≤ phase_of y.kind = first.1 y second.0 in
      let over : phase_of y.kind ≤ phase_of x.kind = second.1 x first.0 in
      omega arith

  listed_rise : Rises (map shown_fault listed)
  listed_rise = shown_rise shown_fault IsNext faults_rise listed (λ i j d lt within. (all.rising i j d lt within, one_phase i j d (omega (arith, lt, within)) within))

findings_rise : (f g : FindingOf) → finding_cmp f g ≡ Less → IsBefore g.path f.path → ⊥
findings_rise f g e back =
    let at : Ordering = ordering_then (nat_cmp f.offset g.offset) (ordering_then (path_cmp (identifier f.rule) (identifier g.rule)) (path_cmp f.name g.name)) in
    not_back f.path g.path at e back

pub files_are_told_once : FilesAreToldOnce
files_are_told_once files shown (inl faulty) =
    in_order (runs shown) (runs_rise shown (subst Rises (sym faulty.shown_is) (listed_rise files faulty.listed faulty.are_all)))
files_are_told_once files shown (inr clean) =
    let found = clean.findings_are in
    in_order (runs shown) (runs_rise shown (subst Rises (sym found.shown_is) (shown_rise shown_finding (λ f g. finding_cmp f g ≡ Less) findings_rise found.listed found.is_listing.ordered)))
