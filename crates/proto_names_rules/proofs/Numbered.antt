-- A list that is walked by its numbers has the clauses of a walk, faults by their kinds have their numbers, and all but its imports stays of a workspace.
use Rattle.std.proofs.Common.{◌≡◌, ℕ, suc, List, [], ◌∷◌, ◌++◌, refl}
use Rattle.proto_base.specs.declared.fault.FaultKind.TheVariants as kind
use Rattle.proto_names_rules.specs.Edits.{with_imports}
use Rattle.proto_names_rules.specs.Faults.{fault, fault_of_kind}
use Rattle.proto_names_rules.specs.Grown.{At, FileNames, all_declared, all_used, file_declared, file_used, skeleton_of_files}
use Rattle.proto_names_rules.specs.Names.{Import, Workspace}

none_declared : (n : ℕ) → all_declared n [] ≡ []
none_declared n = refl

declared_by_first : (n : ℕ) (f : FileNames) (fs : List FileNames) → all_declared n (f ∷ fs) ≡ file_declared n f ++ all_declared (suc n) fs
declared_by_first n f fs = refl

none_used : (n : ℕ) → all_used n [] ≡ []
none_used n = refl

used_by_first : (n : ℕ) (f : FileNames) (fs : List FileNames) → all_used n (f ∷ fs) ≡ file_used n f ++ all_used (suc n) fs
used_by_first n f fs = refl

declared_in_all : (imports : List Import) (fs : List FileNames) → (skeleton_of_files imports fs).declared ≡ all_declared 0 fs
declared_in_all imports fs = refl

used_in_all : (imports : List Import) (fs : List FileNames) → (skeleton_of_files imports fs).used ≡ all_used 0 fs
used_in_all imports fs = refl

unknown_import : (a : At) → fault_of_kind a kind.UnknownImport ≡ fault a 10
unknown_import a = refl

double_import : (a : At) → fault_of_kind a kind.DoubleImport ≡ fault a 11
double_import a = refl

import_cycle : (a : At) → fault_of_kind a kind.ImportCycle ≡ fault a 12
import_cycle a = refl

duplicate_name : (a : At) → fault_of_kind a kind.DuplicateName ≡ fault a 13
duplicate_name a = refl

unresolved_name : (a : At) → fault_of_kind a kind.Unresolved ≡ fault a 14
unresolved_name a = refl

wrong_kind_of_name : (a : At) → fault_of_kind a kind.WrongKind ≡ fault a 15
wrong_kind_of_name a = refl

map_entry : (a : At) → fault_of_kind a kind.MapEntryRef ≡ fault a 16
map_entry a = refl

workspace_whole : (w : Workspace) (imports : List Import)
    → with_imports w imports ≡ (let v : Workspace = record { files = w.files; symbols = w.symbols; imports = imports; references = w.references } in v)
workspace_whole w imports = refl
