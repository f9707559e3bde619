use Rattle.std.proofs.Common.{◌<◌, arith, below_more}
use Rattle.proto_option_values.specs.FileWords.{HasNoWord}
use Rattle.proto_option_values.specs.OptionValues.{words_asked}
use Rattle.proto_option_values.proofs.first.files_without_word.Goals as goal

pub loop-file-preserved : goal.loop-file-preserved
loop-file-preserved c = λ reads are.
    below_more (HasNoWord c.args.files.now reads (words_asked c.args.asked.now)) c.loop-file.file (c.loop-file.invariant reads are) (c.in_ok-has_word_in.ensures reads are c.if-branch.false)

pub returns-then-branch-clause-none : goal.returns-then-branch-clause-none
returns-then-branch-clause-none c = c.loop-file.invariant

pub returns-clause-none : goal.returns-clause-none
returns-clause-none c = λ reads are file lt.
    let below : file < c.loop-file.file = omega (arith, lt, c.loop-file-test.false) in
    c.loop-file.invariant reads are file below
