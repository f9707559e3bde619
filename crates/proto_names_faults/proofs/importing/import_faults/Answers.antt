use Rattle.std.proofs.Common.{map, sym, subst}
use Rattle.std.proofs.lemmas.Result.{IfOk-weaker}
use Rattle.proto_files.specs.Common.{fault_at, paths_of}
use Rattle.proto_names_rules.proofs.Common.{ImportFault}
use Rattle.proto_names_imports.proofs.Common.{all_wanted, text_of}
use Rattle.proto_names_faults.specs.Common.{AreFlawsOf}
use Rattle.proto_names_faults.proofs.Listed.{all_imports_listed, imports_within}
use Rattle.proto_names_faults.proofs.importing.import_faults.Goals as goal

pub listed-requires : goal.listed-requires
listed-requires c =
    let files = c.args.files.now in
    let reads = c.are_read.ensures.0 in
    let are = c.are_read.ensures.1 in
    let flaws = subst (AreFlawsOf (ImportFault (paths_of files) (all_wanted (text_of files reads) 0 reads))) (sym c.deref.ensures.value) (c.in_ok-flaws.ensures reads are) in
    imports_within files reads are c.deref.result.now flaws

pub returns : goal.returns
returns c =
    let files = c.args.files.now in
    let reads = c.are_read.ensures.0 in
    let are = c.are_read.ensures.1 in
    let flaws = subst (AreFlawsOf (ImportFault (paths_of files) (all_wanted (text_of files reads) 0 reads))) (sym c.deref.ensures.value) (c.in_ok-flaws.ensures reads are) in
    record { exact = IfOk-weaker c.listed.result _ _ (λ v l. all_imports_listed files reads are c.deref.result.now flaws (map fault_at v.items) l) c.listed.ensures }
