use Rattle.std.proofs.Common.{◌≡◌, ◌<◌, ℕ, List, length, map, sym, ◌∙◌, ap, subst, arith, All}
use Rattle.proto_base.proofs.Common.{Vec, err_from_is_err_and}
use Rattle.proto_names_affected.specs.FirstWords.{AreFirstsOf}
use Rattle.proto_names.specs.Common.{Meant, all_meant, references_to}
use Rattle.proto_names.specs.FileReferences.{IsLeastBad}
use Rattle.proto_names.proofs.LinkErrors.{linked_by_sight, reference_error, reference_file}
use Rattle.proto_names.proofs.whole_link.linked_references.Goals as goal

pub all_meanings-requires-clause-seen : goal.all_meanings-requires-clause-seen
all_meanings-requires-clause-seen c = ap length c.deref.ensures.value ∙ (c.requires.sight c.are_read.ensures.0 c.are_read.ensures.1).count

pub references_by_name-requires-clause-count : goal.references_by_name-requires-clause-count
references_by_name-requires-clause-count c = omega (arith, ap length c.deref-in-Ok.ensures.value, c.in-Ok.ensures.len, c.len-count.ensures.workspace.few)

pub references_by_name-requires-clause-within : goal.references_by_name-requires-clause-within
references_by_name-requires-clause-within c =
    let files = c.args.files.now in
    let within = c.in-Ok.ensures.within (λ reads are. linked_by_sight files reads c.args.declarations.now.table c.args.graph.now.seen.items c.deref.result.now c.args.declarations.now.rows.items c.deref.ensures.value (c.requires.sight reads are) (c.requires.names reads are)) in
    let n : length c.args.declarations.now.table.rows.items ≡ c.len-names.result = omega (arith, c.len-names.ensures, c.args.declarations.now.table.rows.ok.0) in
    subst (λ (k : ℕ). All (λ (v : Vec Meant). All (λ m. m.row < k) v.items) c.deref-in-Ok.result.now) n
    (subst (All (λ (v : Vec Meant). All (λ m. m.row < length c.args.declarations.now.table.rows.items) v.items)) (sym c.deref-in-Ok.ensures.value) within)

pub returns-in_ok-firsts-in-Ok-clause-meant : goal.returns-in_ok-firsts-in-Ok-clause-meant
returns-in_ok-firsts-in-Ok-clause-meant c = λ reads are.
    (let files = c.args.files.now in
    c.in-Ok.ensures.meant reads are (linked_by_sight files reads c.args.declarations.now.table c.args.graph.now.seen.items c.deref.result.now c.args.declarations.now.rows.items c.deref.ensures.value (c.requires.sight reads are) (c.requires.names reads are)))

pub returns-in_ok-firsts-in-Ok-clause-paired : goal.returns-in_ok-firsts-in-Ok-clause-paired
returns-in_ok-firsts-in-Ok-clause-paired c = omega (arith, c.in_ok-references-in-Ok.ensures.len, c.len-names.ensures, c.args.declarations.now.table.rows.ok.0)

pub returns-in_ok-firsts-in-Ok-clause-references : goal.returns-in_ok-firsts-in-Ok-clause-references
returns-in_ok-firsts-in-Ok-clause-references c = λ row.
    c.in_ok-references-in-Ok.ensures.each row ∙ ap (λ (vs : List (Vec Meant)). references_to row (all_meant 0 (map (λ v. v.items) vs))) c.deref-in-Ok.ensures.value

pub returns-in_ok-firsts-in-Ok-clause-clean : goal.returns-in_ok-firsts-in-Ok-clause-clean
returns-in_ok-firsts-in-Ok-clause-clean c = λ reads are.
    (let files = c.args.files.now in
    c.in-Ok.ensures.clean reads are (linked_by_sight files reads c.args.declarations.now.table c.args.graph.now.seen.items c.deref.result.now c.args.declarations.now.rows.items c.deref.ensures.value (c.requires.sight reads are) (c.requires.names reads are)))

pub returns-in_err-references-in-Ok : goal.returns-in_err-references-in-Ok
returns-in_err-references-in-Ok c = let e = err_from_is_err_and c.from_residual.result c.from_residual.ensures.1 in rw (e.1, e.2) (record { len = tt; meant = tt; paired = tt; references = tt; firsts = tt; clean = tt; fault = tt })

pub fault_at_token-requires : goal.fault_at_token-requires
fault_at_token-requires c =
    let files = c.args.files.now in
    let reads = c.are_read.ensures.0 in
    let are = c.are_read.ensures.1 in
    reference_file files reads are c.in-Err-Fault.bad (subst (IsLeastBad files reads) c.in-Err-Fault.field-0-is (c.in-Err-Fault.ensures.fault reads are (linked_by_sight files reads c.args.declarations.now.table c.args.graph.now.seen.items c.deref.result.now c.args.declarations.now.rows.items c.deref.ensures.value (c.requires.sight reads are) (c.requires.names reads are))))

pub returns-in-Err-Fault-clause-fault : goal.returns-in-Err-Fault-clause-fault
returns-in-Err-Fault-clause-fault c =
    let files = c.args.files.now in
    let reads = c.are_read.ensures.0 in
    let are = c.are_read.ensures.1 in
    reference_error files reads are c.len-count.ensures.workspace (λ had are_had. (c.requires.sight had are_had).sound) c.requires.no_name_fault c.in-Err-Fault.bad c.reference_kind-kind.result c.fault_at_token.result
    (subst (IsLeastBad files reads) c.in-Err-Fault.field-0-is (c.in-Err-Fault.ensures.fault reads are (linked_by_sight files reads c.args.declarations.now.table c.args.graph.now.seen.items c.deref.result.now c.args.declarations.now.rows.items c.deref.ensures.value (c.requires.sight reads are) (c.requires.names reads are)))) c.reference_kind-kind.ensures c.fault_at_token.ensures

pub of-requires : goal.of-requires
of-requires c = record { few = omega (arith, ap length c.deref-in-Ok-2.ensures.value, c.in-Ok.ensures.len, c.len-count.ensures.workspace.few) }

pub returns-in_ok-firsts-in-Ok-clause-firsts : goal.returns-in_ok-firsts-in-Ok-clause-firsts
returns-in_ok-firsts-in-Ok-clause-firsts c = subst (λ (vs : List (Vec Meant)). AreFirstsOf c.in_ok-firsts-in-Ok.firsts (map (λ v. v.items) vs)) c.deref-in-Ok-2.ensures.value c.in_ok-firsts-in-Ok.ensures

pub returns-in_err-firsts-in-Ok : goal.returns-in_err-firsts-in-Ok
returns-in_err-firsts-in-Ok c = let e = err_from_is_err_and c.from_residual-in_err-firsts-in-Ok.result c.from_residual-in_err-firsts-in-Ok.ensures.1 in rw (e.1, e.2) (record { len = tt; meant = tt; paired = tt; references = tt; firsts = tt; clean = tt; fault = tt })
