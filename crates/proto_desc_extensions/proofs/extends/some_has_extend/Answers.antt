use Rattle.std.proofs.Common.{◌<◌, length, sym, ◌∙◌, arith}
use Rattle.proto_desc_extensions.proofs.NoExtensions.{found_there, turn_without}
use Rattle.proto_desc_extensions.proofs.extends.some_has_extend.Goals as goal

pub returns-then-has_extend : goal.returns-then-has_extend
returns-then-has_extend c = λ reads are.
    let files = c.args.files.now in
    let file = c.loop-file.file in
    let l : file < length files = omega (arith, c.loop-file-test.true, c.len-file-end.ensures.len) in
    sym (c.loop-file.invariant reads are ∙ found_there files file l _ c.tree.ensures reads are (sym c.has_extend.ensures ∙ c.if-has_extend.true))

pub loop-file-preserved : goal.loop-file-preserved
loop-file-preserved c = λ reads are.
    let files = c.args.files.now in
    let file = c.loop-file.file in
    let l : file < length files = omega (arith, c.loop-file-test.true, c.len-file-end.ensures.len) in
    c.loop-file.invariant reads are ∙ turn_without files file l _ c.tree.ensures reads are (sym c.has_extend.ensures ∙ c.if-has_extend.false)
