use Rattle.std.proofs.Common.{Bor, Bool, IfOk, List, Option, option_map, subst}
use Rattle.std.proofs.lemmas.Result.{IfOk-weaker}
use Rattle.proto_desc_affected.specs.Common.{AreOthersKept, AreOthersKeptAsTold, file_summaries_of}
use Rattle.proto_desc_affected.specs.declared.file_summary.FileSummary.{FileSummary}
use Rattle.proto_desc.specs.Views.{files_kept}
use Rattle.proto_desc.proofs.Renewed.{WasMade, kept_as_told}
use Rattle.proto_desc.proofs.descriptors.Descriptors.affected.Goals as goal

pub returns-in-Some-clause-others : goal.returns-in-Some-clause-others
returns-in-Some-clause-others c =
    let files = c.args.clean.now.files in
    let places = c.args.places.now in
    let link = c.args.clean.now.link in
    let old = c.args.self.now in
    let told = c.in-Some.told.now in
    let was = subst (λ (o : Option (Bor (List Bool))). WasMade files places (option_map (λ files. files.now) o) old) c.in-Some.is c.requires.were in
    let told_others = rw c.linked-linked.ensures.linked at c.told_files_to_check.ensures.others in
    IfOk-weaker c.told_files_to_check.result
    (λ marks. AreOthersKeptAsTold places files link (file_summaries_of c.deref.result.now) told marks)
    (λ marks. AreOthersKept places files link (files_kept old) marks)
    (λ marks kept. kept_as_told c.clean_edits_are_sound.ensures files places told old was c.linked-linked.ensures.clean.clean c.linked-linked.ensures.clean.reads c.linked-linked.ensures.clean.read link marks
    (subst (λ (ks : List FileSummary). AreOthersKeptAsTold places files link (file_summaries_of ks) told marks) c.deref.ensures.value kept)) told_others

pub returns-in-None-clause-others : goal.returns-in-None-clause-others
returns-in-None-clause-others c =
    subst (λ (ks : List FileSummary). IfOk c.files_to_check.result (λ marks. AreOthersKept c.args.places.now c.args.clean.now.files c.args.clean.now.link (file_summaries_of ks) marks)) c.deref-in-None.ensures.value (rw c.linked-linked.ensures.linked at c.files_to_check.ensures.others)
