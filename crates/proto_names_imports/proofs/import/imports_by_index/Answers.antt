use Rattle.std.proofs.Common.{◌≡◌, length, map, option_map, sym, ◌∙◌, ap, subst}
use Rattle.proto_names_rules.specs.Faults.{ImportFault, imports_of}
use Rattle.proto_names_imports.specs.Common.{all_asked, all_imports, fault_of, IsFirst}
use Rattle.proto_names_imports.proofs.ImportFaults.{first_is}
use Rattle.proto_names_imports.proofs.ImportGraph.{resolved_within}
use Rattle.proto_names_imports.proofs.import.imports_by_index.Goals as goal

pub first_on_cycle-requires-clause-paired : goal.first_on_cycle-requires-clause-paired
first_on_cycle-requires-clause-paired c = ap length c.deref.ensures.value ∙ c.in_ok-imports.ensures.len

pub first_on_cycle-requires-clause-within : goal.first_on_cycle-requires-clause-within
first_on_cycle-requires-clause-within c =
    let paths = c.requires.index.0 in
    let asked = all_asked 0 (map (λ v. v.items) c.args.files.now) in
    let same = subst (λ z. all_imports 0 (map (λ v. v.items) z) ≡ imports_of paths asked) (sym c.deref.ensures.value) (c.in_ok-imports.ensures.imports paths c.requires.index.1) in
    resolved_within (λ v. v.items) c.deref.result.now paths asked (length c.args.files.now) c.requires.index.2 same

pub returns-in-None-clause-clean : goal.returns-in-None-clause-clean
returns-in-None-clause-clean c = λ paths index.
    (let asked = all_asked 0 (map (λ v. v.items) c.args.files.now) in
    let same = subst (λ z. all_imports 0 (map (λ v. v.items) z) ≡ imports_of paths asked) (sym c.deref.ensures.value) (c.in_ok-imports.ensures.imports paths index) in
    let h = first_is paths asked (option_map fault_of c.in_ok-path_fault.path_fault) (option_map fault_of c.in_ok-cycle_fault.cycle_fault) (option_map fault_of c.first.result)
    (c.in_ok-path_fault.ensures paths index) (c.in_ok-cycle_fault.ensures paths index same) c.first.ensures in
    subst (λ o. IsFirst (ImportFault paths asked) (option_map fault_of o)) c.in-None.is h)

pub returns-in-Some-clause-fault : goal.returns-in-Some-clause-fault
returns-in-Some-clause-fault c = λ paths index.
    (let asked = all_asked 0 (map (λ v. v.items) c.args.files.now) in
    let same = subst (λ z. all_imports 0 (map (λ v. v.items) z) ≡ imports_of paths asked) (sym c.deref.ensures.value) (c.in_ok-imports.ensures.imports paths index) in
    let h = first_is paths asked (option_map fault_of c.in_ok-path_fault.path_fault) (option_map fault_of c.in_ok-cycle_fault.cycle_fault) (option_map fault_of c.first.result)
    (c.in_ok-path_fault.ensures paths index) (c.in_ok-cycle_fault.ensures paths index same) c.first.ensures in
    subst (λ o. IsFirst (ImportFault paths asked) (option_map fault_of o)) c.in-Some.is h)

pub returns-in-None-clause-within : goal.returns-in-None-clause-within
returns-in-None-clause-within c =
    let paths = c.requires.index.0 in
    let asked = all_asked 0 (map (λ v. v.items) c.args.files.now) in
    resolved_within (λ v. v.items) c.in_ok-imports.imports.items paths asked (length c.args.files.now) c.requires.index.2 (c.in_ok-imports.ensures.imports paths c.requires.index.1)
