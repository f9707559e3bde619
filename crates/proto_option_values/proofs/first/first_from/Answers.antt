use Rattle.std.proofs.Common.{◌≡◌, ◌<◌, ◌≤◌, None, sym, ◌∙◌, arith, below_more}
use Rattle.proto_option_values.proofs.FirstWord.{none_found}
use Rattle.proto_option_values.specs.FileWords.{file_word}
use Rattle.proto_option_values.specs.OptionValues.{words_asked}
use Rattle.proto_option_values.proofs.first.first_from.Goals as goal

pub loop-file-preserved : goal.loop-file-preserved
loop-file-preserved c = λ reads are file from lt.
    let s = c.args.search.now in
    below_more (λ k. c.args.start ≤ k → file_word s.link.now s.leading.now (words_asked s.asked.now) c.args.files.now reads k ≡ None) c.loop-file.file
    (λ k lt le. c.loop-file.invariant reads are k le lt)
    (λ le. sym (c.in_ok-token.ensures reads are) ∙ none_found c.in_ok-token.field-0 c.in_default.not-Some) file lt from

pub returns-in-Some : goal.returns-in-Some
returns-in-Some c = λ reads are. (
  omega (arith, c.loop-file.auto.file),
  omega (arith, c.loop-file-test.true, c.len-file-end.ensures.len),
  sym (c.in_ok-token.ensures reads are) ∙ c.in-Some.is,
  c.loop-file.invariant reads are,
)

pub returns : goal.returns
returns c = λ reads are file from lt.
    let below : file < c.loop-file.file = omega (arith, lt, c.loop-file-test.false, c.len-file-end.ensures.len) in
    c.loop-file.invariant reads are file from below
