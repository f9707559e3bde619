-- All faults of the first phase of the files given.
use Rattle.std.proofs.Common.{◌≡◌, ◌≢◌, ◌⊎◌, ◌<◌, ◌≤◌, ℕ, List, [], ◌∷◌, map, Some, refl, sym, ap, ◌∙◌, subst, inl, inr, arith, IsPermutation, String, Global, string_bytes}
use Rattle.proto_base.proofs.Common.{All-permutation, Contains-permutation, IsPermutation-sym, IsPermutation-trans, Path, Vec, length_permutation, phase_of}
use Rattle.proto_base.specs.declared.fault.FaultKind.{FaultKind}
use Rattle.proto_base.specs.declared.fault.SchemaFault.{SchemaFault}
use Rattle.proto_base.specs.declared.fault.SchemaFault.TheVariants.{Schema, NoMemory}
use Rattle.proto_base.specs.declared.profile.Profile.{Profile}
use Rattle.proto_files.proofs.Common.{AreWorkspaceFiles, FaultAt, FileOf, HasNoFault, IsFilesError, IsLeastFault, IsWorkspacePath, PathFaults, ReadFaults, fault_at, grammar_is_phase_2, one_order, paths_are_phase_0, paths_of, texts_are_phase_1}
use Rattle.proto_files.specs.GivenFiles.{file_of_as, files_of, files_of_as}
use Rattle.proto_files.specs.ReadFaults.{FaultsOf, GrammarFaults, IsGrammarFault, IsTextFault, TextFaults}
use Rattle.proto_ast.specs.Numbers.{past}
use Rattle.proto_names_faults.specs.AllFaults.{AreAllOf}
use Rattle.proto_desc.specs.Whole.{IsSortedOf}
use Rattle.proto_all_faults.specs.AllFaults.{FaultsUpTo, FileFaultsUpTo, of_check as of_checking, of_files as of_sorted, of_link as of_linking, of_path, of_read}
use Rattle.proto_all_faults.specs.Common.{AreAllFaults, AreSortedOf, FirstPhase, HasSorted}
use Rattle.proto_all_faults.proofs.FilePhases.{check_phase, link_phase}
use Rattle.proto_all_faults.proofs.FirstPhases.{from_part, not_earlier, same_first}

-- ---- the files given, in each language

-- their paths are the same
pub paths_of_given : (p q : Profile) (given : List (String Global × Vec ℕ)) → paths_of (files_of_as p given) ≡ paths_of (files_of_as q given)
paths_of_given p q [] = refl
paths_of_given p q (f ∷ given) = ap (λ (paths : List Path). string_bytes f.0 ∷ paths) (paths_of_given p q given)

-- a file, of another language
abbrev pub with_profile : Profile → FileOf → FileOf
with_profile p f = record f { profile = p }

all_with : (p : Profile) (given : List (String Global × Vec ℕ)) → files_of_as p given ≡ map (with_profile p) (files_of given)
all_with p [] = refl
all_with p (f ∷ given) = ap (λ (files : List FileOf). file_of_as p f ∷ files) (all_with p given)

-- files that are the same in the core language are the same in each
pub same_given : (p : Profile) (a b : List (String Global × Vec ℕ)) → files_of a ≡ files_of b → files_of_as p a ≡ files_of_as p b
same_given p a b e = all_with p a ∙ ap (map (with_profile p)) e ∙ sym (all_with p b)

-- ---- the files given, and those in order

module _ (given sorted : List FileOf) (same : IsPermutation given sorted) (workspace : AreWorkspaceFiles sorted) where
  pub is_sorted : IsSortedOf given sorted
  is_sorted = record { same = same; ordered = workspace.ordered }

  -- there is one order of files
  pub one_sorted : (files : List FileOf) → IsSortedOf given files → files ≡ sorted
  one_sorted files in_order = one_order files sorted (IsPermutation-sym sorted files again) as_workspace workspace
    where
      again : IsPermutation sorted files
      again = IsPermutation-trans sorted given files (IsPermutation-sym given sorted same) in_order.same

      as_workspace : AreWorkspaceFiles files
      as_workspace =
          let long = length_permutation sorted files again in
          let few = workspace.few in
          record { few = omega (arith, long, few); named = All-permutation (λ (f : FileOf). IsWorkspacePath f.path) sorted files again workspace.named; ordered = in_order.ordered }

  files_in_order : (listed : List FaultAt) → HasNoFault (PathFaults 4096 (paths_of given)) → AreAllOf (FirstPhase (FileFaultsUpTo (Some past) sorted)) listed → AreAllFaults given listed
  files_in_order listed named all = same_first (FileFaultsUpTo (Some past) sorted) (FaultsUpTo (Some past) given) listed (λ y h. of_sorted sorted y is_sorted h) back all
    where
      back : (y : FaultAt) → FaultsUpTo (Some past) given y → FileFaultsUpTo (Some past) sorted y
      back y (of_path z h) = absurd (named y h)
      back y (of_sorted files z in_order h) = subst (λ (fs : List FileOf). FileFaultsUpTo (Some past) fs y) (one_sorted files in_order) h

pub files_first : (given sorted : List FileOf) → AreSortedOf given sorted → (listed : List FaultAt) → AreAllOf (FirstPhase (FileFaultsUpTo (Some past) sorted)) listed → AreAllFaults given listed
files_first given sorted h listed all = files_in_order given sorted h.same h.workspace listed h.named all

-- ---- the order of files changes nothing of what is wrong with each

moved : (says : FileOf → ℕ → FaultKind → Type 0) (a b : List FileOf) → IsPermutation a b → (x : FaultAt) → FaultsOf says a x → FaultsOf says b x
moved says a b same x f = (f.0, Contains-permutation a b f.0 same f.1, f.2, f.3)

pub read_moved : (a b : List FileOf) → IsPermutation a b → (x : FaultAt) → ReadFaults a x → ReadFaults b x
read_moved a b same x (inl t) = inl (moved IsTextFault a b same x t)
read_moved a b same x (inr g) = inr (moved IsGrammarFault a b same x g)

pub least_moved : (a b : List FileOf) → IsPermutation a b → (x : FaultAt) → IsLeastFault (ReadFaults a) x → IsLeastFault (ReadFaults b) x
least_moved a b same x least = record { is_fault = read_moved a b same x least.is_fault; is_least = λ y h before. least.is_least y (read_moved b a (IsPermutation-sym a b same) y h) before }

pub read_error_moved : (a b : List FileOf) → IsPermutation a b → (e : SchemaFault) → IsFilesError (ReadFaults a) e → IsFilesError (ReadFaults b) e
read_error_moved a b same (Schema f) least = least_moved a b same (fault_at f) least
read_error_moved a b same NoMemory least = tt

-- ---- each phase

file_phase : (files : List FileOf) (x : FaultAt) → FileFaultsUpTo (Some past) files x → 0 < phase_of x.kind
file_phase files x (of_read z (inl t)) = (let e = texts_are_phase_1 files x t in omega (arith, e))
file_phase files x (of_read z (inr g)) = (let e = grammar_is_phase_2 files x g in omega (arith, e))
file_phase files x (of_linking z h) = (let e = link_phase files x h in omega (arith, e.0))
file_phase files x (of_checking z h) = (let e = check_phase (Some past) files x h in omega (arith, e))

pub paths_first : (given : List FileOf) (x : FaultAt) (listed : List FaultAt) → IsLeastFault (PathFaults 4096 (paths_of given)) x → AreAllOf (PathFaults 4096 (paths_of given)) listed → AreAllFaults given listed
paths_first given x listed least all =
    from_part (FaultsUpTo (Some past) given) (PathFaults 4096 (paths_of given)) listed 0 (λ y h. (of_path y h, paths_are_phase_0 4096 (paths_of given) y h)) x least.is_fault others all
  where
    others : (y : FaultAt) → FaultsUpTo (Some past) given y → PathFaults 4096 (paths_of given) y ⊎ (0 < phase_of y.kind)
    others y (of_path z h) = inl h
    others y (of_sorted files z in_order h) = inr (file_phase files y h)

module _ (given : List FileOf) (has : HasSorted given) (x : FaultAt) (least : IsLeastFault (ReadFaults given) x) (listed : List FaultAt) where
  in_read : (y : FaultAt) → ReadFaults given y → FaultsUpTo (Some past) given y
  in_read y h = of_sorted has.0 y (is_sorted given has.0 has.1.same has.1.workspace) (of_read y (read_moved given has.0 has.1.same y h))

  pub texts_first : phase_of x.kind ≡ 1 → AreAllOf (TextFaults given) listed → AreAllFaults given listed
  texts_first phase all =
      from_part (FaultsUpTo (Some past) given) (TextFaults given) listed 1 (λ y h. (in_read y (inl h), texts_are_phase_1 given y h)) x (here least.is_fault) others all
    where
      here : ReadFaults given x → TextFaults given x
      here (inl t) = t
      here (inr g) = (let e = grammar_is_phase_2 given x g in absurd (omega (arith, phase, e)))

      others : (y : FaultAt) → FaultsUpTo (Some past) given y → TextFaults given y ⊎ (1 < phase_of y.kind)
      others y (of_path z h) = absurd (has.1.named y h)
      others y (of_sorted files z in_order (of_read w (inl t))) = inl (moved IsTextFault files given (IsPermutation-sym given files in_order.same) y t)
      others y (of_sorted files z in_order (of_read w (inr g))) = inr (let e = grammar_is_phase_2 files y g in omega (arith, e))
      others y (of_sorted files z in_order (of_linking w h)) = inr (let e = link_phase files y h in omega (arith, e.0))
      others y (of_sorted files z in_order (of_checking w h)) = inr (let e = check_phase (Some past) files y h in omega (arith, e))

  -- where the least fault is none of a text, no text has one
  pub no_text : phase_of x.kind ≢ 1 → HasNoFault (TextFaults given)
  no_text not_1 y t = (let e = texts_are_phase_1 given y t in let a = not_earlier (ReadFaults given) x y least (inl t) in low e a least.is_fault)
    where
      low : phase_of y.kind ≡ 1 → phase_of x.kind ≤ phase_of y.kind → ReadFaults given x → ⊥
      low e a (inl u) = not_1 (texts_are_phase_1 given x u)
      low e a (inr g) = (let p = grammar_is_phase_2 given x g in omega (arith, e, a, p))

  pub grammar_first : phase_of x.kind ≢ 1 → AreAllOf (GrammarFaults given) listed → AreAllFaults given listed
  grammar_first not_1 all =
      from_part (FaultsUpTo (Some past) given) (GrammarFaults given) listed 2 (λ y h. (in_read y (inr h), grammar_is_phase_2 given y h)) x (here least.is_fault) others all
    where
      here : ReadFaults given x → GrammarFaults given x
      here (inl t) = absurd (not_1 (texts_are_phase_1 given x t))
      here (inr g) = g

      others : (y : FaultAt) → FaultsUpTo (Some past) given y → GrammarFaults given y ⊎ (2 < phase_of y.kind)
      others y (of_path z h) = absurd (has.1.named y h)
      others y (of_sorted files z in_order (of_read w (inl t))) = absurd (no_text not_1 y (moved IsTextFault files given (IsPermutation-sym given files in_order.same) y t))
      others y (of_sorted files z in_order (of_read w (inr g))) = inl (moved IsGrammarFault files given (IsPermutation-sym given files in_order.same) y g)
      others y (of_sorted files z in_order (of_linking w h)) = inr (link_phase files y h).0
      others y (of_sorted files z in_order (of_checking w h)) = inr (let e = check_phase (Some past) files y h in omega (arith, e))
