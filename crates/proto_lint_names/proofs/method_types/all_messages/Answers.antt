use Rattle.std.proofs.Common.{arith}
use Rattle.proto_tree.specs.File.{tree_of_file}
use Rattle.proto_lint_names.specs.Readings.{reading_of}
use Rattle.proto_lint_names.specs.BlockFinds.{all_messages}
use Rattle.proto_lint_names.proofs.FileMessages.{messages_more}
use Rattle.proto_lint_names.proofs.method_types.all_messages.Goals as goal

pub loop-file-preserved : goal.loop-file-preserved
loop-file-preserved c = λ reads are.
    messages_more c.args.linked.now.files reads are c.loop-file.file (omega (arith, c.loop-file-test.true, c.file_count-file-end.ensures.len)) (reading_of c.of-reading.result) (c.of-reading.ensures.read reads are) (tree_of_file c.tree.result.now) (rw c.files-files.ensures.files at c.tree.ensures)
    _ _ (all_messages c.args.linked.now.files reads) c.in_ok-add_file_messages.ensures (c.loop-file.invariant reads are)
