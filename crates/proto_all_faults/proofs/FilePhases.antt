-- All faults of the first phase of files that were read.
use Rattle.std.proofs.Common.{◌≡◌, ◌≢◌, ◌⊎◌, ◌<◌, ℕ, List, Option, inl, inr, arith}
use Rattle.proto_base.proofs.Common.{phase_of}
use Rattle.proto_files.proofs.Common.{FaultAt, IsLeastFault, HasNoFault, FileOf, ReadFaults}
use Rattle.proto_names_imports.proofs.Common.{LinkFaults, of_import, of_name, of_reference, import_found, name_found, reference_found}
use Rattle.proto_names_faults.specs.AllFaults.{AreAllOf, ImportFaults, NameFaults, ReferenceFaults, import_fault, name_fault, reference_fault}
use Rattle.proto_desc_extensions.proofs.WorkspaceFlaws.{all_of_checks}
use Rattle.proto_all_faults.specs.AllFaults.{CheckFaultsUpTo, of_flaw, FileFaultsUpTo, of_read, of_link as of_linking, of_check as of_checking}
use Rattle.proto_all_faults.specs.Common.{FirstPhase}
use Rattle.proto_all_faults.proofs.FirstPhases.{from_last, from_part, not_earlier}

pub check_phase : (cap : Option ℕ) (files : List FileOf) (x : FaultAt) → CheckFaultsUpTo cap files x → phase_of x.kind ≡ 6
check_phase cap files x (of_flaw reads file f are_read within there) = all_of_checks cap files reads file f there

-- ---- the phases of a link

pub imports_phase : (files : List FileOf) (x : FaultAt) → ImportFaults files x → phase_of x.kind ≡ 3
imports_phase files x (import_fault reads f z are stands h) = (import_found files reads are f h).in_phase x.kind stands.number

pub names_phase : (files : List FileOf) (x : FaultAt) → NameFaults files x → phase_of x.kind ≡ 4
names_phase files x (name_fault reads f z are stands h) = (name_found files reads are f h).in_phase x.kind stands.number

pub references_phase : (files : List FileOf) (x : FaultAt) → ReferenceFaults files x → phase_of x.kind ≡ 5
references_phase files x (reference_fault reads f z are stands h) = (reference_found files reads are f h).in_phase x.kind stands.number

link_parts : (files : List FileOf) (x : FaultAt) → LinkFaults files x → ImportFaults files x ⊎ (NameFaults files x ⊎ ReferenceFaults files x)
link_parts files x (of_import reads f z are stands h) = inl (import_fault reads f x are stands h)
link_parts files x (of_name reads f z are stands h) = inr (inl (name_fault reads f x are stands h))
link_parts files x (of_reference reads f z are stands h) = inr (inr (reference_fault reads f x are stands h))

from_imports : (files : List FileOf) (x : FaultAt) → ImportFaults files x → LinkFaults files x
from_imports files x (import_fault reads f z are stands h) = of_import reads f x are stands h

from_names : (files : List FileOf) (x : FaultAt) → NameFaults files x → LinkFaults files x
from_names files x (name_fault reads f z are stands h) = of_name reads f x are stands h

from_references : (files : List FileOf) (x : FaultAt) → ReferenceFaults files x → LinkFaults files x
from_references files x (reference_fault reads f z are stands h) = of_reference reads f x are stands h

pub link_phase : (files : List FileOf) (x : FaultAt) → LinkFaults files x → (2 < phase_of x.kind) × (phase_of x.kind < 6)
link_phase files x h = elim (link_parts files x h) [
  | inl i ↦ (let e = imports_phase files x i in (omega (arith, e), omega (arith, e)))
  | inr (inl i) ↦ (let e = names_phase files x i in (omega (arith, e), omega (arith, e)))
  | inr (inr i) ↦ (let e = references_phase files x i in (omega (arith, e), omega (arith, e)))
]

module _ (cap : Option ℕ) (files : List FileOf) (clean : HasNoFault (ReadFaults files)) (listed : List FaultAt) where
  -- ---- where the files do not link

  module _ (x : FaultAt) (least : IsLeastFault (LinkFaults files) x) where
    pub imports_first : phase_of x.kind ≡ 3 → AreAllOf (ImportFaults files) listed → AreAllOf (FirstPhase (FileFaultsUpTo cap files)) listed
    imports_first phase all =
        from_part (FileFaultsUpTo cap files) (ImportFaults files) listed 3 (λ y h. (of_linking y (from_imports files y h), imports_phase files y h)) x (here (link_parts files x least.is_fault)) others all
      where
        here : ImportFaults files x ⊎ (NameFaults files x ⊎ ReferenceFaults files x) → ImportFaults files x
        here (inl h) = h
        here (inr (inl h)) = (let e = names_phase files x h in absurd (omega (arith, phase, e)))
        here (inr (inr h)) = (let e = references_phase files x h in absurd (omega (arith, phase, e)))

        later : (y : FaultAt) → ImportFaults files y ⊎ (NameFaults files y ⊎ ReferenceFaults files y) → ImportFaults files y ⊎ (3 < phase_of y.kind)
        later y (inl h) = inl h
        later y (inr (inl h)) = inr (let e = names_phase files y h in omega (arith, e))
        later y (inr (inr h)) = inr (let e = references_phase files y h in omega (arith, e))

        others : (y : FaultAt) → FileFaultsUpTo cap files y → ImportFaults files y ⊎ (3 < phase_of y.kind)
        others y (of_read z h) = absurd (clean y h)
        others y (of_linking z h) = later y (link_parts files y h)
        others y (of_checking z h) = inr (let e = check_phase cap files y h in omega (arith, e))

    pub names_first : phase_of x.kind ≡ 4 → AreAllOf (NameFaults files) listed → AreAllOf (FirstPhase (FileFaultsUpTo cap files)) listed
    names_first phase all =
        from_part (FileFaultsUpTo cap files) (NameFaults files) listed 4 (λ y h. (of_linking y (from_names files y h), names_phase files y h)) x (here (link_parts files x least.is_fault)) others all
      where
        here : ImportFaults files x ⊎ (NameFaults files x ⊎ ReferenceFaults files x) → NameFaults files x
        here (inl h) = (let e = imports_phase files x h in absurd (omega (arith, phase, e)))
        here (inr (inl h)) = h
        here (inr (inr h)) = (let e = references_phase files x h in absurd (omega (arith, phase, e)))

        later : (y : FaultAt) → ImportFaults files y ⊎ (NameFaults files y ⊎ ReferenceFaults files y) → NameFaults files y ⊎ (4 < phase_of y.kind)
        later y (inl h) = (let e = imports_phase files y h in let a = not_earlier (LinkFaults files) x y least (from_imports files y h) in absurd (omega (arith, phase, e, a)))
        later y (inr (inl h)) = inl h
        later y (inr (inr h)) = inr (let e = references_phase files y h in omega (arith, e))

        others : (y : FaultAt) → FileFaultsUpTo cap files y → NameFaults files y ⊎ (4 < phase_of y.kind)
        others y (of_read z h) = absurd (clean y h)
        others y (of_linking z h) = later y (link_parts files y h)
        others y (of_checking z h) = inr (let e = check_phase cap files y h in omega (arith, e))

    pub no_names : phase_of x.kind ≢ 3 → phase_of x.kind ≢ 4 → HasNoFault (NameFaults files)
    no_names not_3 not_4 y h = after (link_parts files x least.is_fault)
      where
        after : ImportFaults files x ⊎ (NameFaults files x ⊎ ReferenceFaults files x) → ⊥
        after (inl i) = not_3 (imports_phase files x i)
        after (inr (inl i)) = not_4 (names_phase files x i)
        after (inr (inr i)) = (let p = references_phase files x i in let e = names_phase files y h in let a = not_earlier (LinkFaults files) x y least (from_names files y h) in omega (arith, p, e, a))

    pub references_first : phase_of x.kind ≢ 3 → phase_of x.kind ≢ 4 → AreAllOf (ReferenceFaults files) listed → AreAllOf (FirstPhase (FileFaultsUpTo cap files)) listed
    references_first not_3 not_4 all =
        from_part (FileFaultsUpTo cap files) (ReferenceFaults files) listed 5 (λ y h. (of_linking y (from_references files y h), references_phase files y h)) x there others all
      where
        here : ImportFaults files x ⊎ (NameFaults files x ⊎ ReferenceFaults files x) → ReferenceFaults files x
        here (inl h) = absurd (not_3 (imports_phase files x h))
        here (inr (inl h)) = absurd (not_4 (names_phase files x h))
        here (inr (inr h)) = h

        there : ReferenceFaults files x
        there = here (link_parts files x least.is_fault)

        phase : phase_of x.kind ≡ 5
        phase = references_phase files x there

        later : (y : FaultAt) → ImportFaults files y ⊎ (NameFaults files y ⊎ ReferenceFaults files y) → ReferenceFaults files y ⊎ (5 < phase_of y.kind)
        later y (inl h) = (let p = phase in let e = imports_phase files y h in let a = not_earlier (LinkFaults files) x y least (from_imports files y h) in absurd (omega (arith, p, e, a)))
        later y (inr (inl h)) = (let p = phase in let e = names_phase files y h in let a = not_earlier (LinkFaults files) x y least (from_names files y h) in absurd (omega (arith, p, e, a)))
        later y (inr (inr h)) = inl h

        others : (y : FaultAt) → FileFaultsUpTo cap files y → ReferenceFaults files y ⊎ (5 < phase_of y.kind)
        others y (of_read z h) = absurd (clean y h)
        others y (of_linking z h) = later y (link_parts files y h)
        others y (of_checking z h) = inr (let e = check_phase cap files y h in omega (arith, e))

  -- ---- where they do

  pub checks_last : HasNoFault (LinkFaults files) → AreAllOf (CheckFaultsUpTo cap files) listed → AreAllOf (FirstPhase (FileFaultsUpTo cap files)) listed
  checks_last linked all = from_last (FileFaultsUpTo cap files) (CheckFaultsUpTo cap files) listed 6 (λ y h. (of_checking y h, check_phase cap files y h)) others all
    where
      others : (y : FaultAt) → FileFaultsUpTo cap files y → CheckFaultsUpTo cap files y
      others y (of_read z h) = absurd (clean y h)
      others y (of_linking z h) = absurd (linked y h)
      others y (of_checking z h) = h
