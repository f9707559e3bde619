use Rattle.std.proofs.Common.{map, sym, ap, ◌∙◌}
use Rattle.proto_custom_options.specs.Views.{custom_of}
use Rattle.proto_files.specs.FilesRead.{read_at}
use Rattle.proto_option_values.proofs.NotedFiles.{none_of_file}
use Rattle.proto_option_values.proofs.OptionsRead.{word_read}
use Rattle.proto_option_values.specs.OptionValues.{words_asked}
use Rattle.proto_option_values.proofs.file_words.word_of_file.Goals as goal

pub returns : goal.returns
returns c = λ reads are.
    let file = c.args.file in
    let s = c.args.search.now in
    c.word_of_options.ensures
    ∙ word_read c.args.files.now reads file s.asked.now c.new-words.result (map custom_of c.deref.result.now)
    (c.new-words.ensures.words (read_at reads file).tokens (are.tokens file c.requires.file))
    (ap (map custom_of) c.deref.ensures.value ∙ c.in_ok-options.ensures (read_at reads file) (are.trees file c.requires.file))
    s.link.now s.leading.now

pub returns-then-not-may_have : goal.returns-then-not-may_have
returns-then-not-may_have c = λ reads are.
    let s = c.args.search.now in
    let file = c.args.file in
    none_of_file c.args.files.now reads (words_asked s.asked.now) file (c.requires.noted file c.requires.file (sym c.may_have.ensures ∙ c.if-not-may_have.true) reads are) s.link.now s.leading.now
