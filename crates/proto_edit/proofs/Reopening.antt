-- A workspace with changes: what is put compiles, or no files are put that do.
use Rattle.std.proofs.Common.{◌≡◌, ◌≤◌, IfErr, IfOk, List, OnErr, OnOk, Ok, Err, Result, length, map, ℕ, sym, ap, subst, ◌∙◌, arith}
use Rattle.proto_base.proofs.Common.{IsPermutation-refl, Text, length-map}
use Rattle.proto_files.proofs.Common.{FaultAt, HasNoFault, IsLeastFault, FileOf}
use Rattle.proto_desc.specs.Whole.{WorkspaceFaults, of_files}
use Rattle.proto_edit.specs.Common.{AreCompiled, IsPutRefusal, IsUndo, IsUndoRefusal}
use Rattle.proto_edit_entries.specs.declared.entry.Change.{Change}
use Rattle.proto_edit_entries.proofs.Common.{ChangeOf, change_of, AreChangedTexts, AreRising, ArePut, IsPut, inverted, turned_round, few_changes, puts_are_once, put_by_paths, put_in_order, still_files, with_texts}
use Rattle.proto_edit_entries.specs.declared.refusal.Refusal.{Refusal}
use Rattle.proto_edit_entries.specs.declared.refusal.Refusal.TheVariants as refusal
use Rattle.proto_edit.proofs.GivenAgain.{are_short, opens_again}

module _ (w : List FileOf) (cs : List ChangeOf) (has : AreCompiled w) (rising : AreRising cs) where
  pub none_put : ((after : List FileOf) → ArePut w cs after → ⊥) → IsPutRefusal w cs refusal.Stale
  none_put fails = λ after put compiled. fails after (put_in_order w cs after has.workspace.ordered rising (are_short after compiled) put)

  module _ (given : List FileOf) (walk : ArePut w cs given) where
    pub put : IsPut w cs given
    put = put_by_paths w cs given has.workspace.ordered rising walk

    pub put_compiled : HasNoFault (WorkspaceFaults given) → AreCompiled given
    put_compiled clean =
        let workspace = still_files cs w given has.workspace put.each in
        record { workspace = workspace; clean = λ x h. clean x (of_files given x (record { same = IsPermutation-refl given; ordered = workspace.ordered }) h) }

    pub none_faulty : (x : FaultAt) → IsLeastFault (WorkspaceFaults given) x → IsPutRefusal w cs refusal.Stale
    none_faulty x least = λ after p compiled. opens_again after given x compiled (puts_are_once w given after cs put p) least

    -- no more files are changed than a workspace has
    pub few_files : length cs ≤ 4096
    few_files =
        let some = few_changes w cs given walk in
        let few = has.workspace.few in
        omega (arith, some, few)

  -- the new texts at their places
  module _ (ps : List ℕ) (ts : List Text) (changed : AreChangedTexts w cs ps ts) where
    pub texts_made : (after : List FileOf) → after ≡ with_texts w ps ts → HasNoFault (WorkspaceFaults (with_texts w ps ts)) → IsPut w cs after × AreCompiled after
    texts_made after same clean = subst (λ (z : List FileOf). IsPut w cs z × AreCompiled z) (sym same) (put (with_texts w ps ts) changed.put, put_compiled (with_texts w ps ts) changed.put clean)

    pub texts_faulty : (x : FaultAt) → IsLeastFault (WorkspaceFaults (with_texts w ps ts)) x → IsPutRefusal w cs refusal.Stale
    texts_faulty x least = none_faulty (with_texts w ps ts) changed.put x least

    pub few_places : length ps ≤ 4096
    few_places =
        let few = few_files (with_texts w ps ts) changed.put in
        let count = changed.counted in
        omega (arith, few, count)

-- an entry that cannot be put back cannot be undone
pub undo_refused : (w : List FileOf) (cs : List ChangeOf) (r : Refusal) → IsPutRefusal w (inverted cs) r → IsUndoRefusal w cs r
undo_refused w cs refusal.Stale h = λ before undo. h before undo.put undo.compiled
undo_refused w cs refusal.NoMemory h = tt
undo_refused w cs _ h = absurd h

-- as it is answered, where the changes put are the inverted ones
module _ (w after : List FileOf) (cs back : List ChangeOf) (r : Result (Unit {0}) Refusal) (same : back ≡ inverted cs) where
  pub undo_made : OnOk r (IsPut w back after) → OnOk r (AreCompiled after) → IfOk r (λ _. IsUndo w cs after)
  undo_made put compiled = go r put compiled
    where
      go : (x : Result (Unit {0}) Refusal) → OnOk x (IsPut w back after) → OnOk x (AreCompiled after) → IfOk x (λ _. IsUndo w cs after)
      go (Ok u) p q = record { put = subst (λ (z : List ChangeOf). IsPut w z after) same p; compiled = q }
      go (Err e) p q = tt

  pub undo_not_made : IfErr r (IsPutRefusal w back) → OnErr r (after ≡ w) → IfErr r (λ e. IsUndoRefusal w cs e × (after ≡ w))
  undo_not_made refused kept = go r refused kept
    where
      go : (x : Result (Unit {0}) Refusal) → IfErr x (IsPutRefusal w back) → OnErr x (after ≡ w) → IfErr x (λ e. IsUndoRefusal w cs e × (after ≡ w))
      go (Ok u) p q = tt
      go (Err e) p q = (undo_refused w cs e (subst (λ (z : List ChangeOf). IsPutRefusal w z e) same p), q)

-- the same as a new workspace
module _ (w : List FileOf) (cs back : List ChangeOf) (r : Result (List FileOf) Refusal) (same : back ≡ inverted cs) where
  pub undo_taken : IfOk r (IsPut w back) → IfOk r AreCompiled → IfOk r (IsUndo w cs)
  undo_taken put compiled = go r put compiled
    where
      go : (x : Result (List FileOf) Refusal) → IfOk x (IsPut w back) → IfOk x AreCompiled → IfOk x (IsUndo w cs)
      go (Ok after) p q = record { put = subst (λ (z : List ChangeOf). IsPut w z after) same p; compiled = q }
      go (Err e) p q = tt

  pub undo_not_taken : IfErr r (IsPutRefusal w back) → IfErr r (IsUndoRefusal w cs)
  undo_not_taken refused = go r refused
    where
      go : (x : Result (List FileOf) Refusal) → IfErr x (IsPutRefusal w back) → IfErr x (IsUndoRefusal w cs)
      go (Ok after) p = tt
      go (Err e) p = undo_refused w cs e (subst (λ (z : List ChangeOf). IsPutRefusal w z e) same p)

-- as many changes as their entry has
pub count_of : (changes : List Change) (entry : List ChangeOf) → map change_of changes ≡ entry → length changes ≡ length entry
count_of changes entry e = sym (length-map changes change_of) ∙ ap length e

-- as many as the entry that is turned round
pub count_back : (changes : List Change) (entry : List ChangeOf) → map change_of changes ≡ inverted entry → length changes ≡ length entry
count_back changes entry e = count_of changes (inverted entry) e ∙ length-map entry turned_round
