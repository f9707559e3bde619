-- The faults of checks, file by file, are all faults of checks.
use Rattle.std.proofs.Common.{◌≡◌, ℕ, zero, suc, ◌+◌, ◌<◌, ◌≤◌, List, ◌++◌, length, Option, Some, sym, ap, ◌∙◌, subst, inl, inr, arith, Contains}
use Rattle.proto_base.proofs.Common.{Contains-append_cases, Contains-append_left, Contains-append_right, cases_lt, contains_map, from_map}
use Rattle.proto_tree.specs.Tree.{Tree}
use Rattle.proto_files.proofs.Common.{AreRead, FaultAt, FileOf, IsTreeOf, ReadOf, file_at, read_at, read_once, same_tree}
use Rattle.proto_ast.proofs.Common.{Scene, past}
use Rattle.proto_desc_numbers.specs.declared.flaw.Flaw.{Flaw}
use Rattle.proto_desc_checks.specs.FileFlaws.{file_flaws}
use Rattle.proto_resolved.specs.SceneOf.{scene_of}
use Rattle.proto_resolved.specs.Scenes.{IsSceneOf}
use Rattle.proto_desc_extensions.specs.Extensions.{all_flaws}
use Rattle.proto_desc.specs.Checked.{fault_of_flaw}
use Rattle.proto_desc.specs.CheckSteps.{AreOfWorkspace}
use Rattle.proto_all_faults.specs.AllFaults.{CheckFaultsUpTo, of_flaw}
use Rattle.proto_all_faults.specs.Common.{AreFound, faults_before, faults_in}

-- what is found in a file is all that is wrong with it
pub flaws_of_file : (files : List FileOf) (file : ℕ) (scene : Scene) (tree : Tree) (flaws : List Flaw) (reads : List ReadOf) → AreRead files reads → file < length files → IsSceneOf files file scene → IsTreeOf (file_at files file) tree → AreOfWorkspace files file flaws
    → file_flaws scene tree ++ flaws ≡ all_flaws (Some past) files reads file
flaws_of_file files file scene tree flaws reads are within is of_file others =
    ap (λ (t : Tree). file_flaws scene t ++ flaws) (sym (same_tree files reads file tree are within of_file))
    ∙ ap (λ (s : Scene). file_flaws s (read_at reads file).tree ++ flaws) (is reads are)
    ∙ ap (λ (fs : List Flaw). file_flaws (scene_of (Some past) files reads file) (read_at reads file).tree ++ fs) (others reads are)

module _ (cap : Option ℕ) (files : List FileOf) (reads : List ReadOf) (are : AreRead files reads) where
  sound : (n : ℕ) → n ≤ length files → (x : FaultAt) → Contains (faults_before cap files reads n) x → CheckFaultsUpTo cap files x
  sound zero l x c = absurd (omega (arith, c.1))
  sound (suc n) l x c = elim (Contains-append_cases (faults_before cap files reads n) (faults_in cap files reads n) x c) [
    | inl h ↦ sound n (omega (arith, l)) x h
    | inr h ↦ (let r = from_map (fault_of_flaw files reads n) (all_flaws cap files reads n) x h in subst (CheckFaultsUpTo cap files) r.2 (of_flaw reads n r.0 are (omega (arith, l)) r.1))
  ]

  there : (n file : ℕ) (f : Flaw) → file < n → Contains (all_flaws cap files reads file) f → Contains (faults_before cap files reads n) (fault_of_flaw files reads file f)
  there zero file f l c = absurd (omega (arith, l))
  there (suc n) file f l c = elim (cases_lt file n) [
    | inl before ↦ Contains-append_left (faults_before cap files reads n) (faults_in cap files reads n) (fault_of_flaw files reads file f) (there n file f before c)
    | inr past_it ↦
        let same : n ≡ file = omega (arith, l, past_it) in
        Contains-append_right (faults_before cap files reads n) (faults_in cap files reads n) (fault_of_flaw files reads file f)
        (subst (λ (k : ℕ). Contains (faults_in cap files reads k) (fault_of_flaw files reads file f)) (sym same) (contains_map (fault_of_flaw files reads file) (all_flaws cap files reads file) f c))
  ]

  whole : (x : FaultAt) → CheckFaultsUpTo cap files x → Contains (faults_before cap files reads (length files)) x
  whole x (of_flaw rs file f r within c) =
      let e = read_once files reads rs are r in
      subst (λ (q : List ReadOf). Contains (faults_before cap files reads (length files)) (fault_of_flaw files q file f)) e
      (there (length files) file f within (subst (λ (q : List ReadOf). Contains (all_flaws cap files q file) f) (sym e) c))

  pub checks_found : AreFound (CheckFaultsUpTo cap files) (faults_before cap files reads (length files))
  checks_found = record { sound = sound (length files) (omega arith); whole = whole }

  -- one file more
  pub file_turn : (file : ℕ) (found next : List FaultAt) → next ≡ found ++ faults_in cap files reads file → found ≡ faults_before cap files reads file → next ≡ faults_before cap files reads (file + 1)
  file_turn file found next new same =
      let step : suc file ≡ file + 1 = omega arith in
      new ∙ ap (λ (fs : List FaultAt). fs ++ faults_in cap files reads file) same ∙ ap (faults_before cap files reads) step
