-- A walk over paths in their order meets the least fault first.
use Rattle.std.proofs.Common.{◌≡◌, ℕ, ◌+◌, ◌<◌, ◌≤◌, Bool, true, false, cond, List, [], ◌∷◌, ◌++◌, length, get_or, refl, sym, ap, ◌∙◌, subst, inl, inr, ⊎_elim, arith, ◌⊎◌, Option, Some, None, length-append, append_assoc, ◌==◌, IsPermutation, Contains, count_by, bytes_eq, append-nil}
use Rattle.proto_base.proofs.Common.{Decides-eqb, false≢true, bytes_eq-Decides, sum_by-append, count_by-le-length, IsPermutation-sym, Contains-permutation, length_permutation, sum_by-IsPermutation, kind_number, phase_of}
use Rattle.proto_base.specs.declared.fault.FaultKind.{FaultKind}
use Rattle.proto_base.specs.declared.fault.FaultKind.TheVariants.{BadPath, DoublePath, TooManyFiles}
use Rattle.proto_files.specs.Common.{IsBefore, IsInPathOrder, IsWorkspacePath, is_workspace_path, IsLeastFault, HasNoFault, IsPathFault, PathFaults, begins_with, fault_before, fault_or, first_fault}
use Rattle.proto_files.proofs.WorkspacePathTest.{is_path_from_test, test_from_is_path}
use Rattle.proto_files.proofs.Members.{Member, All-member, member_from_Contains, Contains-from_member, member_append, member_right}
use Rattle.proto_files.proofs.FaultOrder.{comes_before_cases}
use Rattle.proto_files.proofs.PathOrder.{never_before_itself, before_from_sides, before_at_most, PathsRise, count-cons, count_none, bytes_apart, count_once, is_up_to, not_up_to, count_up_to}

-- what a walk knows when it comes to `rest`
pub record Passed (limit : ℕ) (done rest : List (List ℕ)) : Type 0 where
  pub named : (q : List ℕ) → Member q done → IsWorkspacePath q
  pub rises : PathsRise done
  pub below : (d q : List ℕ) → Member d done → Member q rest → IsBefore d q
  pub few : length done ≤ limit

pub passed_none : (limit : ℕ) (paths : List (List ℕ)) → Passed limit [] paths
passed_none limit paths = record { named = λ q m. absurd m; rises = tt; below = λ d q m. absurd m; few = omega arith }

Rises-push : (ps : List (List ℕ)) (p : List ℕ) → PathsRise ps → ((q : List ℕ) → Member q ps → IsBefore q p) → PathsRise (ps ++ p ∷ [])
Rises-push [] p r h = ((λ q m. absurd m), tt)
Rises-push (x ∷ ps) p r h = (
  (λ q m. ⊎_elim (λ l. r.0 q l) (λ m'. ⊎_elim (λ (e : p ≡ q). subst (λ (y : List ℕ). IsBefore x y) e (h x (inl refl))) (λ f. absurd f) m') (member_append q ps (p ∷ []) m)),
  Rises-push ps p r.1 (λ q m. h q (inr m)),
)

-- the path behind one in order is it, or each path behind is behind it
next_apart : (p : List ℕ) (ps : List (List ℕ)) → IsInPathOrder (p ∷ ps) → begins_with ps p ≡ false → (q : List ℕ) → Member q ps → IsBefore p q
next_apart p [] o b q m = absurd m
next_apart p (n ∷ ps) o b q m =
    let first : IsBefore p n = before_from_sides p n (All-member (λ r. IsBefore r p → ⊥) (n ∷ ps) n o.0 (inl refl)) (λ e. false≢true (sym b ∙ (bytes_eq-Decides n p).1 (sym e))) in
    ⊎_elim (λ (e : n ≡ q). subst (λ (x : List ℕ). IsBefore p x) e first) (λ m'. before_at_most p n q first (All-member (λ r. IsBefore r n → ⊥) ps q o.1.0 m')) m

passed_more : (limit : ℕ) (done : List (List ℕ)) (p : List ℕ) (ps : List (List ℕ)) → Passed limit done (p ∷ ps) → IsInPathOrder (p ∷ ps) → is_workspace_path p ≡ true → begins_with ps p ≡ false → length done < limit → Passed limit (done ++ p ∷ []) ps
passed_more limit done p ps h o w b few =
    record {
      named = λ q m. ⊎_elim (λ l. h.named q l) (λ r. ⊎_elim (λ (e : p ≡ q). subst (λ (x : List ℕ). IsWorkspacePath x) e (is_path_from_test p w)) (λ f. absurd f) r) (member_append q done (p ∷ []) m);
      rises = Rises-push done p h.rises (λ q m. h.below q p m (inl refl));
      below = λ d q m m'. ⊎_elim (λ l. h.below d q l (inr m')) (λ r. ⊎_elim (λ (e : p ≡ d). subst (λ (x : List ℕ). IsBefore x q) e (next_apart p ps o b q m')) (λ f. absurd f) r) (member_append d done (p ∷ []) m);
      few = omega (arith, length-append done (p ∷ []));
    }

-- what `fault_before` says of a path
abbrev Says : ℕ → ℕ → List ℕ → List (List ℕ) → Option FaultKind → Type 0
Says place limit p ps None = (is_workspace_path p ≡ true) × (begins_with ps p ≡ false) × (place ≡ limit → ⊥)
Says place limit p ps (Some BadPath) = is_workspace_path p ≡ false
Says place limit p ps (Some DoublePath) = (is_workspace_path p ≡ true) × (begins_with ps p ≡ true)
Says place limit p ps (Some TooManyFiles) = (is_workspace_path p ≡ true) × (begins_with ps p ≡ false) × (place ≡ limit)
Says place limit p ps (Some _) = ⊥

fault_before-says : (place limit : ℕ) (p : List ℕ) (ps : List (List ℕ)) → Says place limit p ps (fault_before place limit p ps)
unfolding fault_before
fault_before-says place limit p ps = go (is_workspace_path p) refl (begins_with ps p) refl (place == limit) refl where
  go : (w : Bool) → is_workspace_path p ≡ w → (b : Bool) → begins_with ps p ≡ b → (e : Bool) → (place == limit) ≡ e → Says place limit p ps (cond w (cond b (Some DoublePath) (cond e (Some TooManyFiles) None)) (Some BadPath))
  go false w b b-is e e-is = w
  go true w true b e e-is = (w, b)
  go true w false b true e = (w, b, (Decides-eqb place limit).0 e)
  go true w false b false e = (w, b, λ is. false≢true (sym e ∙ (Decides-eqb place limit).1 is))

at_middle : {X : Type 0} (done : List X) (p : X) (ps : List X) (d : X) → get_or (done ++ p ∷ ps) (length done) d ≡ p
at_middle [] p ps d = refl
at_middle (x ∷ done) p ps d = at_middle done p ps d

begins_counted : (ps : List (List ℕ)) (p : List ℕ) → begins_with ps p ≡ true → 0 < count_by (bytes_eq p) ps
begins_counted [] p b = absurd (false≢true b)
begins_counted (n ∷ ps) p b =
    let is : n ≡ p = (bytes_eq-Decides n p).0 b in
    omega (arith, count-cons (bytes_eq p) n ps ∙ ap (λ c. cond c 1 0 + count_by (bytes_eq p) ps) ((bytes_eq-Decides p n).1 (sym is)))

module _ (limit : ℕ) (given all : List (List ℕ)) (same : IsPermutation given all) where
  counted : (t : List ℕ → Bool) → count_by t given ≡ count_by t all
  counted t = sym (sum_by-IsPermutation (λ q. cond (t q) 1 0) given all same)

  split_count : (t : List ℕ → Bool) (done ps : List (List ℕ)) → all ≡ done ++ ps → count_by t given ≡ count_by t done + count_by t ps
  split_count t done ps e = counted t ∙ ap (count_by t) e ∙ sum_by-append (λ q. cond (t q) 1 0) done ps

  given_member : (q : List ℕ) (done ps : List (List ℕ)) → all ≡ done ++ ps → Contains given q → Member q done ⊎ Member q ps
  given_member q done ps e h =
      let in_all : Member q all = member_from_Contains q all (Contains-permutation given all q same h) in
      member_append q done ps (subst (λ (xs : List (List ℕ)). Member q xs) e in_all)

  -- nothing behind a path in order is before it
  behind : (p q : List ℕ) (ps : List (List ℕ)) → IsInPathOrder (p ∷ ps) → Member q (p ∷ ps) → IsBefore q p → ⊥
  behind p q ps o (inl e) b = never_before_itself q (subst (λ (x : List ℕ). IsBefore q x) e b)
  behind p q ps o (inr m) b = All-member (λ r. IsBefore r p → ⊥) ps q o.0 m b

  -- no fault stands at a path before the first that is left
  none_before : (done ps : List (List ℕ)) (p : List ℕ) → all ≡ done ++ p ∷ ps → Passed limit done (p ∷ ps) → IsInPathOrder (p ∷ ps) → (k : FaultKind) (q : List ℕ) → IsPathFault limit given k q → IsBefore q p → ⊥
  none_before done ps p e h o BadPath q f b =
      ⊎_elim (λ l. f.1 (h.named q l)) (λ r. behind p q ps o r b) (given_member q done (p ∷ ps) e f.0)
  none_before done ps p e h o DoublePath q f b =
      let rest : count_by (bytes_eq q) (p ∷ ps) ≡ 0 = count_none (bytes_eq q) (p ∷ ps) (λ r m. bytes_apart q r (λ (is : q ≡ r). behind p q ps o (subst (λ (x : List ℕ). Member x (p ∷ ps)) (sym is) m) b)) in
      omega (arith, f, split_count (bytes_eq q) done (p ∷ ps) e, count_once q done h.rises, rest)
  none_before done ps p e h o TooManyFiles q f b =
      let rest : count_by (is_up_to q) (p ∷ ps) ≡ 0 = count_none (is_up_to q) (p ∷ ps) (λ r m. not_up_to q r (before_at_most q p r b (behind p r ps o m))) in
      let over : limit < count_by (is_up_to q) f.ordered = count_up_to f.ordered limit q f.in_order f.is_place f.is_there in
      omega (arith, over, sum_by-IsPermutation (λ r. cond (is_up_to q r) 1 0) given f.ordered f.same_paths, split_count (is_up_to q) done (p ∷ ps) e, count_by-le-length (is_up_to q) done, h.few, rest)
  none_before done ps p e h o _ q f b = absurd f

  -- a path among those passed stands before the one that is left
  passed_apart : (done ps : List (List ℕ)) (p : List ℕ) → Passed limit done (p ∷ ps) → count_by (bytes_eq p) done ≡ 0
  passed_apart done ps p h = count_none (bytes_eq p) done (λ d m. bytes_apart p d (λ (is : p ≡ d). never_before_itself d (subst (λ (x : List ℕ). IsBefore d x) is (h.below d p m (inl refl)))))

  -- no fault at the path itself has a lower number
  none_below : (done ps : List (List ℕ)) (p : List ℕ) → all ≡ done ++ p ∷ ps → Passed limit done (p ∷ ps) → IsInPathOrder (p ∷ ps) → (j : FaultKind) → Says (length done) limit p ps (Some j) → (k : FaultKind) → IsPathFault limit given k p → kind_number k < kind_number j → ⊥
  none_below done ps p e h o BadPath s BadPath f lt = omega arith
  none_below done ps p e h o BadPath s DoublePath f lt = omega arith
  none_below done ps p e h o BadPath s TooManyFiles f lt = omega arith
  none_below done ps p e h o BadPath s _ f lt = absurd f
  none_below done ps p e h o DoublePath s BadPath f lt = f.1 (is_path_from_test p s.0)
  none_below done ps p e h o DoublePath s DoublePath f lt = omega arith
  none_below done ps p e h o DoublePath s TooManyFiles f lt = omega arith
  none_below done ps p e h o DoublePath s _ f lt = absurd f
  none_below done ps p e h o TooManyFiles s BadPath f lt = f.1 (is_path_from_test p s.0)
  none_below done ps p e h o TooManyFiles s DoublePath f lt =
      let rest : count_by (bytes_eq p) ps ≡ 0 = count_none (bytes_eq p) ps (λ q m. bytes_apart p q (λ (is : p ≡ q). never_before_itself p (subst (λ (x : List ℕ). IsBefore p x) (sym is) (next_apart p ps o s.1 q m)))) in
      omega (arith, f, split_count (bytes_eq p) done (p ∷ ps) e, passed_apart done ps p h, count-cons (bytes_eq p) p ps ∙ ap (λ c. cond c 1 0 + count_by (bytes_eq p) ps) ((bytes_eq-Decides p p).1 refl), rest)
  none_below done ps p e h o TooManyFiles s TooManyFiles f lt = omega arith
  none_below done ps p e h o TooManyFiles s _ f lt = absurd f
  none_below done ps p e h o _ s k f lt = absurd s

  -- the fault of the first path that has one is the least
  stop : IsInPathOrder all → (done ps : List (List ℕ)) (p : List ℕ) → all ≡ done ++ p ∷ ps → Passed limit done (p ∷ ps) → IsInPathOrder (p ∷ ps) → (j : FaultKind) → Says (length done) limit p ps (Some j) → IsLeastFault (PathFaults limit given) (record { path = p; offset = 0; kind = j })
  stop order done ps p e h o j s =
      record {
        is_fault = (refl, holds j s);
        is_least = λ y f before.
            ⊎_elim (λ (lt : phase_of y.kind < phase_of j). absurd (omega (arith, phase_zero j s)))
            (λ eq. ⊎_elim (λ b. none_before done ps p e h o y.kind y.path f.1 b)
            (λ at. ⊎_elim (λ (lt : y.offset < 0). absurd (omega arith)) (λ num. none_below done ps p e h o j s y.kind (subst (λ (q : List ℕ). IsPathFault limit given y.kind q) at.0 f.1) num.1) at.1) eq.1)
            (comes_before_cases y (record { path = p; offset = 0; kind = j }) before);
      }
    where
      phase_zero : (k : FaultKind) → Says (length done) limit p ps (Some k) → phase_of k ≡ 0
      phase_zero BadPath t = refl
      phase_zero DoublePath t = refl
      phase_zero TooManyFiles t = refl
      phase_zero _ t = absurd t

      here : Contains given p
      here = Contains-permutation all given p (IsPermutation-sym given all same) (Contains-from_member p all (subst (λ (xs : List (List ℕ)). Member p xs) (sym e) (member_right p done (p ∷ ps) (inl refl))))

      holds : (k : FaultKind) → Says (length done) limit p ps (Some k) → IsPathFault limit given k p
      holds BadPath t = (here, λ w. false≢true (sym t ∙ test_from_is_path p w))
      holds DoublePath t =
          omega (arith, split_count (bytes_eq p) done (p ∷ ps) e, count-cons (bytes_eq p) p ps ∙ ap (λ c. cond c 1 0 + count_by (bytes_eq p) ps) ((bytes_eq-Decides p p).1 refl), begins_counted ps p t.1)
      holds TooManyFiles t =
          let at : get_or all limit p ≡ p = ap (λ xs. get_or xs limit p) e ∙ ap (λ k. get_or (done ++ p ∷ ps) k p) (sym t.2) ∙ at_middle done p ps p in
          let within : limit < length all = omega (arith, t.2, ap length e, length-append done (p ∷ ps)) in
          record { ordered = all; same_paths = same; in_order = order; is_place = within; is_there = at }
      holds _ t = absurd t

  -- where the walk ends, no path has a fault
  all_passed : Passed limit all [] → HasNoFault (PathFaults limit given)
  all_passed h y f = none y.kind y.path f.1
    where
      none : (k : FaultKind) (q : List ℕ) → IsPathFault limit given k q → ⊥
      none BadPath q f = f.1 (h.named q (member_from_Contains q all (Contains-permutation given all q same f.0)))
      none DoublePath q f = omega (arith, f, counted (bytes_eq q), count_once q all h.rises)
      none TooManyFiles q f =
          let place : limit < length f.ordered = f.is_place in
          omega (arith, place, length_permutation given f.ordered f.same_paths, length_permutation given all same, h.few)
      none _ q f = absurd f

  -- what a walk over all paths answers
  abbrev pub Outcome : Option (ℕ × FaultKind) → Type 0
  Outcome None = HasNoFault (PathFaults limit given) × Passed limit all []
  Outcome (Some fault) = (fault.0 < length all) × IsLeastFault (PathFaults limit given) (record { path = get_or all fault.0 []; offset = 0; kind = fault.1 })

  walk : IsInPathOrder all → (done ps : List (List ℕ)) → all ≡ done ++ ps → Passed limit done ps → IsInPathOrder ps → Outcome (first_fault (length done) limit ps)
  unfolding first_fault
  walk order done [] e h o =
      let is : all ≡ done = e ∙ append-nil done in
      let passed : Passed limit all [] = subst (λ (xs : List (List ℕ)). Passed limit xs []) (sym is) h in
      (all_passed passed, passed)
  walk order done (p ∷ ps) e h o =
      go (fault_before (length done) limit p ps) (fault_before-says (length done) limit p ps)
      (λ passed. walk order (done ++ p ∷ []) ps (e ∙ sym (append_assoc done (p ∷ []) ps)) passed o.1)
    where
      go : (r : Option FaultKind) → Says (length done) limit p ps r → (Passed limit (done ++ p ∷ []) ps → Outcome (first_fault (length (done ++ p ∷ [])) limit ps)) → Outcome (fault_or (length done) r (first_fault (length done + 1) limit ps))
      go (Some kind) s more =
          let at : get_or all (length done) [] ≡ p = ap (λ xs. get_or xs (length done) []) e ∙ at_middle done p ps [] in
          let within : length done < length all = omega (arith, ap length e, length-append done (p ∷ ps)) in
          (within, subst (λ (q : List ℕ). IsLeastFault (PathFaults limit given) (record { path = q; offset = 0; kind = kind })) (sym at) (stop order done ps p e h o kind s))
      go None s more =
          let few : length done < limit = omega (arith, h.few, s.2) in
          let next : length (done ++ p ∷ []) ≡ length done + 1 = length-append done (p ∷ []) in
          subst (λ (n : ℕ). Outcome (first_fault n limit ps)) next (more (passed_more limit done p ps h o s.0 s.1 few))

  pub walked : IsInPathOrder all → Outcome (first_fault 0 limit all)
  walked order = walk order [] all refl (passed_none limit all) order
