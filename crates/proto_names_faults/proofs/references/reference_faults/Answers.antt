use Rattle.std.proofs.Common.{map, sym, subst}
use Rattle.std.proofs.lemmas.Result.{IfOk-weaker}
use Rattle.proto_files.specs.Common.{fault_at}
use Rattle.proto_names_rules.proofs.Common.{ReferenceFault}
use Rattle.proto_names_imports.proofs.Common.{link_skeleton, text_of}
use Rattle.proto_names_faults.specs.Common.{AreFlawsOf}
use Rattle.proto_names_faults.proofs.Listed.{all_references_listed, references_within}
use Rattle.proto_names_faults.proofs.references.reference_faults.Goals as goal

pub listed-requires : goal.listed-requires
listed-requires c =
    let files = c.args.files.now in
    let reads = c.are_read.ensures.0 in
    let are = c.are_read.ensures.1 in
    let flaws = subst (AreFlawsOf (ReferenceFault (text_of files reads) (link_skeleton files reads))) (sym c.deref.ensures.value) (c.in_ok-flaws.ensures reads are) in
    references_within files reads are c.deref.result.now flaws

pub returns : goal.returns
returns c =
    let files = c.args.files.now in
    let reads = c.are_read.ensures.0 in
    let are = c.are_read.ensures.1 in
    let flaws = subst (AreFlawsOf (ReferenceFault (text_of files reads) (link_skeleton files reads))) (sym c.deref.ensures.value) (c.in_ok-flaws.ensures reads are) in
    record { exact = IfOk-weaker c.listed.result _ _ (λ v l. all_references_listed files reads are c.deref.result.now flaws (map fault_at v.items) l) c.listed.ensures }
