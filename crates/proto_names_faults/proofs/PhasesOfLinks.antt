-- The faults of a link by their phases.
use Rattle.std.proofs.Common.{◌≡◌, List, inl, inr, ◌⊎◌}
use Rattle.proto_files.proofs.Common.{FaultAt, FileOf}
use Rattle.proto_names_imports.proofs.Common.{LinkFaults, import_found, name_found, of_import, of_name, of_reference, reference_found}
use Rattle.proto_base.proofs.Common.{phase_of}
use Rattle.proto_names_faults.specs.Common.{FaultsAreOfPhases, ImportFaults, LinkFaultsAreThese, NameFaults, ReferenceFaults, import_fault, name_fault, reference_fault}

by_phase : (files : List FileOf) (x : FaultAt) → LinkFaults files x → ImportFaults files x ⊎ (NameFaults files x ⊎ ReferenceFaults files x)
by_phase files x (of_import reads f z r s h) = inl (import_fault reads f x r s h)
by_phase files x (of_name reads f z r s h) = inr (inl (name_fault reads f x r s h))
by_phase files x (of_reference reads f z r s h) = inr (inr (reference_fault reads f x r s h))

import_of_link : (files : List FileOf) (x : FaultAt) → ImportFaults files x → LinkFaults files x
import_of_link files x (import_fault reads f z r s h) = of_import reads f x r s h

name_of_link : (files : List FileOf) (x : FaultAt) → NameFaults files x → LinkFaults files x
name_of_link files x (name_fault reads f z r s h) = of_name reads f x r s h

reference_of_link : (files : List FileOf) (x : FaultAt) → ReferenceFaults files x → LinkFaults files x
reference_of_link files x (reference_fault reads f z r s h) = of_reference reads f x r s h

pub link_faults_are_these : LinkFaultsAreThese
link_faults_are_these files x = (
  by_phase files x,
  λ h. elim h [ inl i ↦ import_of_link files x i | inr (inl n) ↦ name_of_link files x n | inr (inr r) ↦ reference_of_link files x r ],
)

import_phase : (files : List FileOf) (x : FaultAt) → ImportFaults files x → phase_of x.kind ≡ 3
import_phase files x (import_fault reads f z r s h) = (import_found files reads r f h).in_phase x.kind s.number

name_phase : (files : List FileOf) (x : FaultAt) → NameFaults files x → phase_of x.kind ≡ 4
name_phase files x (name_fault reads f z r s h) = (name_found files reads r f h).in_phase x.kind s.number

reference_phase : (files : List FileOf) (x : FaultAt) → ReferenceFaults files x → phase_of x.kind ≡ 5
reference_phase files x (reference_fault reads f z r s h) = (reference_found files reads r f h).in_phase x.kind s.number

pub faults_are_of_phases : FaultsAreOfPhases
faults_are_of_phases = record { imports = import_phase; names = name_phase; references = reference_phase }
