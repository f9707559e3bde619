use Rattle.std.proofs.Common.{List, Bool, subst, nat_eq}
use Rattle.std.proofs.lemmas.Result.{IfOk-weaker}
use Rattle.indexmap.specs.IndexMap.{get}
use Rattle.proto_names_affected.specs.Marking.{MarksStay}
use Rattle.proto_desc_affected.specs.Common.{file_summaries_of}
use Rattle.proto_desc_affected.proofs.ToldMarks.{told_others}
use Rattle.proto_desc_affected.proofs.marks.told_files_to_check.Goals as goal

pub returns-clause-others : goal.returns-clause-others
returns-clause-others c =
    let files = c.args.linked.now.files in
    let places = c.args.places.now in
    let l = c.args.linked.now.link in
    let ks = file_summaries_of c.args.kept.now in
    let told = c.args.told.now in
    let unsure = c.mark_users.new.marks in
    IfOk-weaker c.unsure_to_check.result _ _
    (λ found asked. told_others c.marks_tell_kept.ensures c.links_have_what_is_kept.ensures.listed places files l c.link.ensures.linked.link ks (get nat_eq c.in_ok-still.still) c.in_ok-still.ensures told unsure found c.requires.told
    (subst (λ (marks : List Bool). MarksStay marks unsure) c.in_ok-unsure.ensures c.mark_users.ensures.stay) (rw c.link.ensures.link at c.mark_users.ensures.marked)
    asked)
    c.unsure_to_check.ensures.others
