use Rattle.std.proofs.Common.{List, length, map, sym, ◌∙◌, ap, subst, arith}
use Rattle.proto_base.proofs.Common.{IfOk-weaker, length-map}
use Rattle.proto_files.specs.GivenFiles.{paths_of}
use Rattle.proto_names_imports.proofs.Common.{all_asked}
use Rattle.proto_names_rules.proofs.Common.{AskedImport, ImportFault}
use Rattle.proto_names_faults.specs.Common.{AreFlawsOf}
use Rattle.proto_names_faults.proofs.importing.flaws_by_index.Goals as goal

pub flaws_by_written-requires-clause-count : goal.flaws_by_written-requires-clause-count
flaws_by_written-requires-clause-count c = omega (arith, ap length c.deref.ensures.value, c.in_ok-written.ensures.len, c.len-count.ensures.workspace.few)

pub flaws_by_written-requires-clause-index : goal.flaws_by_written-requires-clause-index
flaws_by_written-requires-clause-index c = (
  paths_of c.args.files.now,
  c.requires,
  length-map c.args.files.now (λ f. f.path) ∙ sym c.in_ok-written.ensures.len ∙ sym (ap length c.deref.ensures.value),
)

pub returns : goal.returns
returns c =
    let paths = paths_of c.args.files.now in
    IfOk-weaker c.flaws_by_written.result _ _
    (λ ws h reads are.
    (let asked = ap (λ xs. all_asked 0 (map (λ v. v.items) xs)) c.deref.ensures.value ∙ c.in_ok-written.ensures.asked reads are in
    subst (λ (xs : List AskedImport). AreFlawsOf (ImportFault paths xs) ws.items) asked (h paths c.requires)))
    c.flaws_by_written.ensures
