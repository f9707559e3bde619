-- Where the first fault of files that have changed is of a text or its grammar, theirs are all the first of the whole.
use Rattle.std.proofs.Common.{◌≡◌, ◌⊎◌, ◌<◌, ℕ, List, [], ◌∷◌, Contains, get_or, length, map, slice_get, Some, refl, sym, ap, ◌∙◌, subst, inl, inr, arith}
use Rattle.proto_base.proofs.Common.{All-contains, Contains-permutation, FileOf, IsPermutation-refl, IsPermutation-sym, Path, cases_lt, contains_head, get_or-map, length-map, none-some, paths_of, phase_of, same_Some}
use Rattle.proto_base.specs.declared.fault.Fault.{Fault}
use Rattle.proto_base.specs.declared.fault.FaultKind.{FaultKind}
use Rattle.proto_files.proofs.Common.{FaultAt, HasNoFault, IsBefore, PathFaults, ReadFaults, fault_at, paths_are_phase_0}
use Rattle.proto_files.specs.ReadFaults.{FaultsOf, IsGrammarFault, IsTextFault}
use Rattle.proto_ast.specs.Numbers.{past}
use Rattle.proto_names_imports.specs.Links.{LinkFaults}
use Rattle.proto_names_faults.specs.AllFaults.{FaultsAreOfPhases, LinkFaultsAreThese}
use Rattle.proto_desc.specs.Whole.{IsSortedOf, of_read as of_reading}
use Rattle.proto_desc.proofs.GivenInOrder.{no_fault_of_path}
use Rattle.proto_desc_extensions.proofs.WorkspaceFlaws.{all_of_checks}
use Rattle.proto_edit.specs.Compiled.{AreCompiled}
use Rattle.proto_all_faults.specs.AllFaults.{CheckFaultsUpTo, FaultsUpTo, FirstPhase, of_check, of_files, of_flaw, of_link, of_path, of_read}
use Rattle.proto_all_faults.specs.Laws.{AreAllFaults}
use Rattle.proto_session_files.specs.Changed.{AreChanged}

-- ---- phases

later_link : LinkFaultsAreThese → FaultsAreOfPhases → (files : List FileOf) (y : FaultAt) → LinkFaults files y → 2 < phase_of y.kind
later_link these phases files y h = elim ((these files y).0 h) [
  | inl i ↦ (let e = phases.imports files y i in omega (arith, e))
  | inr (inl i) ↦ (let e = phases.names files y i in omega (arith, e))
  | inr (inr i) ↦ (let e = phases.references files y i in omega (arith, e))
]

later_check : (files : List FileOf) (y : FaultAt) → CheckFaultsUpTo (Some past) files y → 2 < phase_of y.kind
later_check files y (of_flaw reads file f are within there) = (let e = all_of_checks (Some past) files reads file f there in omega (arith, e))

-- the first of some faults, where it is of a text or its grammar
pub begins_in_texts : (listed : List Fault) (first : Fault) (n : ℕ) → slice_get listed 0 ≡ Some first → n ≡ phase_of first.kind → 0 < n → n < 3 → (x : FaultAt) × (rest : List FaultAt) × (map fault_at listed ≡ x ∷ rest) × (0 < phase_of x.kind) × (phase_of x.kind < 3)
begins_in_texts [] first n at is some_ few = absurd (none-some first at)
begins_in_texts (y ∷ listed) first n at is some_ few =
    let same : y ≡ first = same_Some y first at in
    let phase : n ≡ phase_of y.kind = is ∙ ap (λ (z : Fault). phase_of z.kind) (sym same) in
    (fault_at y, map fault_at listed, refl, omega (arith, phase, some_), omega (arith, phase, few))

-- ---- faults of texts and grammar, by the file that has them

moved : (says : FileOf → ℕ → FaultKind → Type 0) (a b : List FileOf) → ((f : FileOf) → Contains a f → Contains b f) → (y : FaultAt) → FaultsOf says a y → FaultsOf says b y
moved says a b into y f = (f.0, into f.0 f.1, f.2, f.3)

read_moved : (a b : List FileOf) → ((f : FileOf) → Contains a f → Contains b f) → (y : FaultAt) → ReadFaults a y → ReadFaults b y
read_moved a b into y (inl t) = inl (moved IsTextFault a b into y t)
read_moved a b into y (inr g) = inr (moved IsGrammarFault a b into y g)

either : (P : FileOf → ℕ → FaultKind → Type 0) (a b c : List FileOf) → ((f : FileOf) → Contains a f → Contains b f ⊎ Contains c f) → (y : FaultAt) → FaultsOf P a y → FaultsOf P b y ⊎ FaultsOf P c y
either P a b c apart y f = elim (apart f.0 f.1) [
  | inl of_b ↦ inl (f.0, of_b, f.2, f.3)
  | inr of_c ↦ inr (f.0, of_c, f.2, f.3)
]

read_either : (a b c : List FileOf) → ((f : FileOf) → Contains a f → Contains b f ⊎ Contains c f) → (y : FaultAt) → ReadFaults a y → ReadFaults b y ⊎ ReadFaults c y
read_either a b c apart y (inl t) = elim (either IsTextFault a b c apart y t) [
  | inl of_b ↦ inl (inl of_b)
  | inr of_c ↦ inr (inl of_c)
]
read_either a b c apart y (inr g) = elim (either IsGrammarFault a b c apart y g) [
  | inl of_b ↦ inl (inr of_b)
  | inr of_c ↦ inr (inr of_c)
]

-- ---- the whole, and what has changed in it

module _ (these : LinkFaultsAreThese) (phases : FaultsAreOfPhases) (w g c : List FileOf) (compiled : AreCompiled w) (are : AreChanged w g c) where
  read_clean : HasNoFault (ReadFaults w)
  read_clean y h = compiled.clean y (of_reading y h)

  named : HasNoFault (PathFaults 4096 (paths_of g))
  named y h = no_fault_of_path w compiled.workspace y.kind y.path (subst (λ (ps : List Path). PathFaults 4096 ps y) are.paths h).1

  same_length : length g ≡ length w
  same_length = sym (length-map g (λ (f : FileOf). f.path)) ∙ (ap length are.paths ∙ length-map w (λ (f : FileOf). f.path))

  same_path : (i : ℕ) (d : FileOf) → i < length g → (get_or w i d).path ≡ (get_or g i d).path
  same_path i d l =
      let m : i < length w = omega (arith, l, same_length) in
      sym (get_or-map (λ (f : FileOf). f.path) w i d d.path m) ∙ (ap (λ (ps : List Path). get_or ps i d.path) (sym are.paths) ∙ get_or-map (λ (f : FileOf). f.path) g i d d.path l)

  in_order : IsSortedOf g g
  in_order = record {
    same = IsPermutation-refl g;
    ordered = λ i j d lt within.
        subst (λ (p : Path). IsBefore p (get_or g j d).path) (same_path i d (omega (arith, lt, within)))
        (subst (λ (p : Path). IsBefore (get_or w i d).path p) (same_path j d within) (compiled.workspace.ordered i j d lt (omega (arith, within, same_length))));
  }

  -- an early fault of those that have changed is one of the whole
  early_forth : (y : FaultAt) → FaultsUpTo (Some past) c y → 0 < phase_of y.kind → phase_of y.kind < 3 → FaultsUpTo (Some past) g y
  early_forth y (of_path z h) some_ few = (let e = paths_are_phase_0 4096 (paths_of c) y h in absurd (omega (arith, e, some_)))
  early_forth y (of_files files z sorted (of_read x h)) some_ few =
      of_files g y in_order (of_read y (read_moved files g (λ f k. All-contains (Contains g) c f are.within (Contains-permutation files c f (IsPermutation-sym c files sorted.same) k)) y h))
  early_forth y (of_files files z sorted (of_link x h)) some_ few = (let e = later_link these phases files y h in absurd (omega (arith, e, few)))
  early_forth y (of_files files z sorted (of_check x h)) some_ few = (let e = later_check files y h in absurd (omega (arith, e, few)))

  -- those that have changed have an order, where they have an early fault
  changed_order : (x : FaultAt) → FaultsUpTo (Some past) c x → 0 < phase_of x.kind → (files : List FileOf) × IsSortedOf c files
  changed_order x (of_path z h) some_ = (let e = paths_are_phase_0 4096 (paths_of c) x h in absurd (omega (arith, e, some_)))
  changed_order x (of_files files z sorted h) some_ = (files, sorted)

  -- an early fault of the whole is one of those
  early_back : (files : List FileOf) → IsSortedOf c files → (y : FaultAt) → FaultsUpTo (Some past) g y → phase_of y.kind < 3 → FaultsUpTo (Some past) c y
  early_back files sorted y (of_path z h) few = absurd (named y h)
  early_back files sorted y (of_files of_g z order (of_read x h)) few =
      elim (read_either of_g w c (λ f k. All-contains (λ (d : FileOf). Contains w d ⊎ Contains c d) g f are.others (Contains-permutation of_g g f (IsPermutation-sym g of_g order.same) k)) y h) [
        | inl of_w ↦ absurd (read_clean y of_w)
        | inr of_c ↦ of_files files y sorted (of_read y (read_moved c files (λ f k. Contains-permutation c files f sorted.same k) y of_c))
      ]
  early_back files sorted y (of_files of_g z order (of_link x h)) few = (let e = later_link these phases of_g y h in absurd (omega (arith, e, few)))
  early_back files sorted y (of_files of_g z order (of_check x h)) few = (let e = later_check of_g y h in absurd (omega (arith, e, few)))

  module _ (x : FaultAt) (rest : List FaultAt) (all : AreAllFaults c (x ∷ rest)) (some_ : 0 < phase_of x.kind) (few : phase_of x.kind < 3) where
    first : FirstPhase (FaultsUpTo (Some past) c) x
    first = All-contains (FirstPhase (FaultsUpTo (Some past) c)) (x ∷ rest) x all.sound (contains_head x rest)

    forth : (z : FaultAt) → FirstPhase (FaultsUpTo (Some past) c) z → FirstPhase (FaultsUpTo (Some past) g) z
    forth z h =
        let low = h.1 x first.0 in
        let high = first.1 z h.0 in (
          early_forth z h.0 (omega (arith, some_, high)) (omega (arith, few, low)),
          λ y k. elim (cases_lt (phase_of y.kind) 3) [
            | inl early ↦ h.1 y (early_back (changed_order x first.0 some_).0 (changed_order x first.0 some_).1 y k early)
            | inr late ↦ omega (arith, late, few, low)
          ],
        )

    back : (z : FaultAt) → FirstPhase (FaultsUpTo (Some past) g) z → FirstPhase (FaultsUpTo (Some past) c) z
    back z h =
        let low = h.1 x (early_forth x first.0 some_ few) in
        (early_back (changed_order x first.0 some_).0 (changed_order x first.0 some_).1 z h.0 (omega (arith, few, low)), λ y k. (let high = first.1 y k in omega (arith, low, high)))

    -- theirs are all
    pub own_are_all : AreAllFaults g (x ∷ rest)
    own_are_all = record {
      rising = all.rising;
      sound = λ k d l. forth (get_or (x ∷ rest) k d) (all.sound k d l);
      whole = λ z h. all.whole z (back z h);
    }
