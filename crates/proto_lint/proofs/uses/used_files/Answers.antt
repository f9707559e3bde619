use Rattle.std.proofs.Common.{◌≡◌, ℕ, List, get_or, length, [], ◌∙◌, subst}
use Rattle.proto_files.specs.FilesRead.{ReadOf}
use Rattle.proto_lint.specs.ImportTables.{MarksMeant}
use Rattle.proto_lint.proofs.Used.{marks_used}
use Rattle.proto_lint.proofs.uses.used_files.Goals as goal

pub returns : goal.returns
returns c =
    let files = c.args.linked.now.files in
    let link = c.args.linked.now.link in
    let used = c.in_ok-used.used in
    let sized : length used ≡ length files = c.in_ok-used.ensures.len ∙ c.file_count-count.ensures.len in
    let meant = rw c.link.ensures.link at c.in_ok-used.ensures.meant in
    let marked = subst (λ (n : ℕ). MarksMeant link (get_or link.meant c.args.file []) n used) c.file_count-count.ensures.len meant in
    record {
      sized = sized;
      used = λ (reads : List ReadOf) are to l. marks_used files reads link are (c.link.ensures.linked.link reads are) c.args.file c.requires used sized marked to l;
    }
