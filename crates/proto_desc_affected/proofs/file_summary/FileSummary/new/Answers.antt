use Rattle.std.proofs.Common.{◌∙◌}
use Rattle.proto_desc_affected.proofs.file_summary.FileSummary.new.Goals as goal

pub is_proto3_file-requires : goal.is_proto3_file-requires
is_proto3_file-requires c = rw c.files-files.ensures.files c.requires

pub has_extend_at-requires : goal.has_extend_at-requires
has_extend_at-requires c = rw c.files-files.ensures.files c.requires

pub returns : goal.returns
returns c = λ reads are.
    (let same = c.files-files.ensures.files in
    let used = rw c.link.ensures.link at c.in_ok-types_used.ensures in
    let means = used ∙ c.links_have_what_is_kept.ensures.kept c.args.linked.now.files c.args.linked.now.link c.link.ensures.linked.link reads are c.args.file c.requires in
    let enums = c.in_ok-enum_summaries.ensures reads are in
    let version = (rw same at c.is_proto3_file.ensures) reads are in
    let extends = (rw same at c.has_extend_at.ensures) reads are in
    λ i. record { means = means i; enums = enums i; is_proto3 = version i; has_extend = extends i })
