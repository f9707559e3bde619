use Rattle.std.proofs.Common.{map, sym, ap, ◌∙◌}
use Rattle.proto_custom_options.specs.Views.{custom_of}
use Rattle.proto_files.specs.FilesRead.{read_at}
use Rattle.proto_option_values.proofs.OptionsRead.{has_no_word}
use Rattle.proto_option_values.proofs.file_words.has_word_in.Goals as goal

pub returns : goal.returns
returns c = λ reads are none.
    let file = c.args.file in
    has_no_word c.args.files.now reads file c.args.asked.now c.new-words.result (map custom_of c.deref.result.now)
    (c.new-words.ensures.words (read_at reads file).tokens (are.tokens file c.requires.file))
    (ap (map custom_of) c.deref.ensures.value ∙ c.in_ok-options.ensures (read_at reads file) (are.trees file c.requires.file))
    (sym c.has_word.ensures ∙ none)

pub returns-then-not-may_have : goal.returns-then-not-may_have
returns-then-not-may_have c = λ reads are none. c.requires.noted c.args.file c.requires.file (sym c.may_have.ensures ∙ c.if-not-may_have.true) reads are
