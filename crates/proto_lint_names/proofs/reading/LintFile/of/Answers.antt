use Rattle.std.proofs.Common.{refl}
use Rattle.proto_files.specs.GivenFiles.{file_at}
use Rattle.proto_lint_names.proofs.Readings.{read_is}
use Rattle.proto_lint_names.proofs.reading.LintFile.of.Goals as goal

pub tokens-tokens-requires : goal.tokens-tokens-requires
tokens-tokens-requires c = rw c.files-files.ensures.files c.requires

pub new-words-requires : goal.new-words-requires
new-words-requires c = rw c.files-files.ensures.files c.requires

pub returns-clause-read : goal.returns-clause-read
returns-clause-read c = λ reads are.
    (let files = c.args.linked.now.files in
    let given = c.files-files.ensures.files in
    let tokens = rw given at c.tokens-tokens.ensures.tokens in
    read_is files reads are c.link.result.now (rw c.link.ensures.link c.link.ensures.linked.link) c.args.file c.requires (file_at files c.args.file).bytes refl
    c.tokens-tokens.result.now tokens c.new-words.result ((rw given at c.new-words.ensures.words) c.tokens-tokens.result.now tokens))
