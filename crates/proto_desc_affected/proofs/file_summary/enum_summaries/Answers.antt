use Rattle.std.proofs.Common.{[], flat_map, get_or, ◌∙◌}
use Rattle.std.proofs.lemmas.Result.{IfOk-weaker}
use Rattle.proto_desc_affected.specs.Checked.{enum_by_link}
use Rattle.proto_desc_affected.proofs.file_summary.enum_summaries.Goals as goal

pub enums_of_file-requires : goal.enums_of_file-requires
enums_of_file-requires c = rw c.files.ensures.files c.requires

pub returns : goal.returns
returns c =
    let l = c.args.linked.now.link in
    let rows = rw c.files.ensures.files at c.in_ok-rows.ensures in
    let declared = rw c.link.ensures.link at c.enums_declared.ensures in
    IfOk-weaker c.enums_declared.result _ _
    (λ ks found reads are. found
    ∙ (λ i. flat_map (enum_by_link l (λ token. rows reads are token i)) (get_or l.rows c.args.file []))
    ∙ c.links_have_what_is_kept.ensures.declared c.args.linked.now.files l c.link.ensures.linked.link reads are c.args.file c.requires)
    declared
