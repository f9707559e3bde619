-- Files whose declarations are put into a table again, one after the other.
use Rattle.std.proofs.Common.{◌≡◌, ℕ, ◌+◌, ◌<◌, ◌≤◌, List, [], ◌∷◌, ◌++◌, length, get_or, take, sym, ◌∙◌, ap, subst, arith, append-nil, append_assoc, flat_map, length-append, take_all, Contains, Option, Result, Ok, Err, IfOk, IfSome}
use Rattle.std.specs.Result.{result_ok}
use Rattle.std.proofs.lemmas.List.{flat_map_more, take_more}
use Rattle.proto_names_rules.proofs.Common.{get_front, get_last}
use Rattle.proto_names_table.proofs.Common.{Named, named_in}
use Rattle.proto_names_table.proofs.Filled.{kept_both, kept_itself, rows_kept}
use Rattle.proto_names_table.proofs.Naming.{named_length}
use Rattle.proto_names_table.specs.Filling.{AreRowsOfNames, Holds, IsKept}
use Rattle.proto_names_table.specs.declared.spelled.Spelled.{Spelled}
use Rattle.proto_names_table.specs.declared.table.Row.{Row}
use Rattle.proto_names_table.specs.declared.table.Table.{Table}
use Rattle.proto_names_rules.specs.declared.kind.Kind.TheVariants.{Package}
use Rattle.proto_names_update.specs.Renewal.{AreDeclaredAgain}
use Rattle.proto_names_update.specs.RenewedNames.{AreBeside, AreFilesAgain, AreRowsAgain, IsFileAgain}
use Rattle.proto_names_update.proofs.Places.{before_more}

-- what follows from two facts of a value, where it is answered
pub both_answered : {X E : Type 0} (o : Option X) (r : Result X E) → o ≡ result_ok r → (P Q R : X → Type 0) → ((x : X) → P x → Q x → R x) → IfSome o P → IfSome o Q → IfOk r R
both_answered o (Ok x) e P Q R f p q = f x (subst (λ a. IfSome a P) e p) (subst (λ a. IfSome a Q) e q)
both_answered o (Err error) e P Q R f p q = tt

-- one list more of those that stand one behind the other
pub flat_step : {X : Type 0} (f : ℕ → List X) (places : List ℕ) (k : ℕ) → k < length places → flat_map f (take (k + 1) places) ≡ flat_map f (take k places) ++ f (get_or places k 0)
flat_step f places k l = ap (flat_map f) (take_more places k 0 l) ∙ sym (flat_map_more f [] (take k places) (get_or places k 0))

-- ---- one file

module _ (old new : Table) (file : ℕ) (ss : List Spelled) (rows own before : List ℕ) (again : AreDeclaredAgain old new file ss rows) (same : own ≡ rows)
    (packages : (row : ℕ) → Contains before row → ((r : Row) → (get_or new.rows.items row r).symbol.kind ≡ Package) → Contains own row) where
  pub file_again : (ds : List Named) → named_in file ss ≡ ds → IsFileAgain old new ds before own
  file_again ds e = record {
    beside = record { kept = again.kept; held = λ others h. subst (λ z. Holds new (others ++ z)) e (again.held others h) };
    rows = record {
      count = ap length same ∙ again.count ∙ sym (named_length file ss) ∙ ap length e;
      each = subst (λ z. AreRowsOfNames new z own) e (subst (AreRowsOfNames new (named_in file ss)) (sym same) again.each);
      packages = λ row c l declared kind. packages row c (λ r. ap (λ s. s.kind) (again.kept.symbols row r l (declared r)).0 ∙ kind r);
    };
  }

-- ---- many files

module _ (t u v : Table) where
  -- rows stay those of the declarations, once there are others beside
  rows_stay : (ds : List Named) (before rows : List ℕ) → IsKept u v → AreRowsAgain t u ds before rows → AreRowsAgain t v ds before rows
  rows_stay ds before rows kept again = record { count = again.count; each = rows_kept u v ds rows kept again.each; packages = again.packages }

  -- and were so since an earlier table
  rows_since : (ds : List Named) (before rows : List ℕ) → IsKept t u → AreRowsAgain u v ds before rows → AreRowsAgain t v ds before rows
  rows_since ds before rows kept again = record {
    count = again.count;
    each = again.each;
    packages = λ row c l declared kind.
        again.packages row c (let s = kept.size in omega (arith, l, s)) (λ r. (kept.symbols row r l (declared r)).1) (λ r. ap (λ z. z.kind) (kept.symbols row r l (declared r)).0 ∙ kind r);
  }

-- so many of the files are in the table again
pub record AreSoManyAgain (t u : Table) (own : ℕ → List Named) (places : List ℕ) (before rows : List (List ℕ)) (k : ℕ) : Type 0 where
  pub beside : AreBeside t u (flat_map own (take k places))
  pub count : length rows ≡ k
  pub each : (j : ℕ) → j < k → AreRowsAgain t u (own (get_or places j 0)) (get_or before (get_or places j 0) []) (get_or rows j [])

pub none_again : (t : Table) (own : ℕ → List Named) (places : List ℕ) (before rows : List (List ℕ)) → rows ≡ [] → AreSoManyAgain t t own places before rows 0
none_again t own places before rows e = record {
  beside = record { kept = kept_itself t; held = λ others h. subst (Holds t) (sym (append-nil others)) h };
  count = ap length e;
  each = λ j l. absurd (omega (arith, l));
}

pub one_again : (t u v : Table) (own : ℕ → List Named) (places : List ℕ) (before rows next : List (List ℕ)) (k : ℕ) (new was : List ℕ) → k < length places → AreSoManyAgain t u own places before rows k
    → next ≡ rows ++ new ∷ [] → was ≡ get_or before (get_or places k 0) [] → IsFileAgain u v (own (get_or places k 0)) was new → AreSoManyAgain t v own places before next (k + 1)
one_again t u v own places before rows next k new was l first e is second = record {
  beside = record {
    kept = kept_both t u v first.beside.kept second.beside.kept;
    held = λ others h.
        subst (Holds v) (append_assoc others (flat_map own (take k places)) (own p) ∙ ap (λ z. others ++ z) (sym (flat_step own places k l)))
        (second.beside.held (others ++ flat_map own (take k places)) (first.beside.held others h));
  };
  count = ap length e ∙ length-append rows (new ∷ []) ∙ ap (λ n. n + 1) first.count;
  each = before_more (λ j. AreRowsAgain t v (own (get_or places j 0)) (get_or before (get_or places j 0) []) (get_or next j [])) k
      (λ j lj.
      subst (AreRowsAgain t v (own (get_or places j 0)) (get_or before (get_or places j 0) [])) (sym (ap (λ z. get_or z j []) e ∙ get_front rows (new ∷ []) j [] (omega (arith, lj, first.count))))
      (rows_stay t u v (own (get_or places j 0)) (get_or before (get_or places j 0) []) (get_or rows j []) second.beside.kept (first.each j lj)))
      (subst (AreRowsAgain t v (own p) (get_or before p [])) (sym (ap (λ z. get_or z k []) e ∙ ap (λ i. get_or (rows ++ new ∷ []) i []) (sym first.count) ∙ get_last rows new []))
      (subst (λ b. AreRowsAgain t v (own p) b new) is (rows_since t u v (own p) was new first.beside.kept second.rows)));
}
  where
    p : ℕ
    p = get_or places k 0

pub all_again : (t u : Table) (own : ℕ → List Named) (places : List ℕ) (before rows : List (List ℕ)) (k : ℕ) → length places ≤ k → k ≤ length places → AreSoManyAgain t u own places before rows k → AreFilesAgain t u own places before rows
all_again t u own places before rows k past within so = record {
  beside = subst (λ z. AreBeside t u (flat_map own z)) (take_all k places past) so.beside;
  count = omega (arith, so.count, past, within);
  each = λ j l. so.each j (omega (arith, l, past));
}
