use Rattle.std.proofs.Common.{◌≡◌, ℕ, ◌<◌, List, length, map, sym, ◌∙◌, ap, subst, arith, All}
use Rattle.proto_base.proofs.Common.{length-map, IfOk-from_err}
use Rattle.proto_names_rules.specs.Faults.{AskedImport, Fault, ImportFault, imports_of}
use Rattle.proto_base.specs.declared.fault.SchemaFault.TheVariants.{NoMemory}
use Rattle.proto_files.specs.GivenFiles.{paths_of}
use Rattle.proto_names_imports.proofs.Common.{TokensAreRising, IsImportError, all_asked, fault_of, all_wanted, text_of}
use Rattle.proto_names.proofs.LinkErrors.{error_is, import_error, import_file, least_as_read}
use Rattle.proto_names.proofs.whole_link.linked_imports.Goals as goal

pub fault_at_token-requires : goal.fault_at_token-requires
fault_at_token-requires c =
    let files = c.args.files.now in
    let reads = c.are_read.ensures.0 in
    let are = c.are_read.ensures.1 in
    let paths = map (λ p. p.now) c.deref.result.now in
    let asked = all_asked 0 (map (λ v. v.items) c.deref-2.result.now) in
    let bad = c.in-Err-Fault.bad in
    import_file files reads are bad
    (least_as_read files reads are paths asked (fault_of bad) (ap (map (λ p. p.now)) c.deref.ensures.value ∙ c.in_ok-paths.ensures)
    (ap (λ ws. all_asked 0 (map (λ v. v.items) ws)) c.deref-2.ensures.value ∙ c.in_ok-written.ensures.asked reads are) (subst (IsImportError (ImportFault paths asked)) c.in-Err-Fault.field-0-is c.in-Err-Fault.ensures.fault))

pub returns-in-Err-Fault-clause-fault : goal.returns-in-Err-Fault-clause-fault
returns-in-Err-Fault-clause-fault c =
    let files = c.args.files.now in
    let reads = c.are_read.ensures.0 in
    let are = c.are_read.ensures.1 in
    let paths = map (λ p. p.now) c.deref.result.now in
    let asked = all_asked 0 (map (λ v. v.items) c.deref-2.result.now) in
    let bad = c.in-Err-Fault.bad in
    import_error files reads are c.len.ensures.workspace bad c.import_kind-kind.result c.fault_at_token.result
    (least_as_read files reads are paths asked (fault_of bad) (ap (map (λ p. p.now)) c.deref.ensures.value ∙ c.in_ok-paths.ensures)
    (ap (λ ws. all_asked 0 (map (λ v. v.items) ws)) c.deref-2.ensures.value ∙ c.in_ok-written.ensures.asked reads are) (subst (IsImportError (ImportFault paths asked)) c.in-Err-Fault.field-0-is c.in-Err-Fault.ensures.fault))
    c.import_kind-kind.ensures c.fault_at_token.ensures

pub resolve_imports-requires : goal.resolve_imports-requires
resolve_imports-requires c =
    let paths = length-map c.in_ok-paths.paths.items (λ p. p.now) in
    let given = length-map c.args.files.now (λ f. f.path) in
    let n : length c.deref.result.now ≡ length c.args.files.now = omega (arith, ap length c.deref.ensures.value, paths, given, ap length c.in_ok-paths.ensures) in
    record {
      count = omega (arith, n, c.len.ensures.workspace.few);
      paired = omega (arith, n, ap length c.deref-2.ensures.value, c.in_ok-written.ensures.len);
      rising = subst (All (λ v. TokensAreRising v.items)) (sym c.deref-2.ensures.value) c.in_ok-written.ensures.rising;
    }

pub returns-in-Ok-clause-imports : goal.returns-in-Ok-clause-imports
returns-in-Ok-clause-imports c = λ reads are.
    let paths = ap (map (λ p. p.now)) c.deref.ensures.value ∙ c.in_ok-paths.ensures in
    let asked = ap (λ ws. all_asked 0 (map (λ v. v.items) ws)) c.deref-2.ensures.value ∙ c.in_ok-written.ensures.asked reads are in
    c.in-Ok.ensures.imports ∙ ap (λ ps. imports_of ps (all_asked 0 (map (λ v. v.items) c.deref-2.result.now))) paths ∙ ap (imports_of (paths_of c.args.files.now)) asked

pub returns-in_err-written : goal.returns-in_err-written
returns-in_err-written c =
    let r = c.from_residual.result in
    let err = c.from_residual.ensures.0 in
    record {
      len = IfOk-from_err r _ err;
      within = IfOk-from_err r _ err;
      imports = IfOk-from_err r _ err;
      clean = IfOk-from_err r _ err;
      fault = error_is r _ NoMemory c.from_residual.ensures.1 tt;
    }

pub returns-in_err-paths : goal.returns-in_err-paths
returns-in_err-paths c =
    let r = c.from_residual-in_err-paths.result in
    let err = c.from_residual-in_err-paths.ensures.0 in
    record {
      len = IfOk-from_err r _ err;
      within = IfOk-from_err r _ err;
      imports = IfOk-from_err r _ err;
      clean = IfOk-from_err r _ err;
      fault = error_is r _ NoMemory c.from_residual-in_err-paths.ensures.1 tt;
    }

pub returns-in-Ok-clause-len : goal.returns-in-Ok-clause-len
returns-in-Ok-clause-len c = omega (arith, c.in-Ok.ensures.len, ap length c.deref-2.ensures.value, c.in_ok-written.ensures.len)

pub returns-in-Ok-clause-within : goal.returns-in-Ok-clause-within
returns-in-Ok-clause-within c =
    let n : length c.deref-2.result.now ≡ length c.args.files.now = omega (arith, ap length c.deref-2.ensures.value, c.in_ok-written.ensures.len) in
    subst (λ (k : ℕ). All (λ v. All (λ i. i.to < k) v.items) c.in-Ok.imports.items) n c.in-Ok.ensures.within

pub returns-in-Ok-clause-clean : goal.returns-in-Ok-clause-clean
returns-in-Ok-clause-clean c = λ reads are.
    let paths = ap (map (λ p. p.now)) c.deref.ensures.value ∙ c.in_ok-paths.ensures in
    let asked = ap (λ ws. all_asked 0 (map (λ v. v.items) ws)) c.deref-2.ensures.value ∙ c.in_ok-written.ensures.asked reads are in
    subst (λ (ps : List (List ℕ)). (f : Fault) → ImportFault ps (all_wanted (text_of c.args.files.now reads) 0 reads) f → ⊥) paths
    (subst (λ (xs : List AskedImport). (f : Fault) → ImportFault (map (λ p. p.now) c.deref.result.now) xs f → ⊥) asked c.in-Ok.ensures.clean)
