use Rattle.std.proofs.Common.{map, ap}
use Rattle.proto_text.proofs.Common.{lexeme_at, one_token_list}
use Rattle.proto_files.specs.GivenFiles.{file_at}
use Rattle.proto_files.proofs.words.Words.new.Goals as goal

pub returns-clause-words : goal.returns-clause-words
returns-clause-words c = λ tokens are.
    (let bytes = (file_at c.args.files.now c.args.place).bytes in
    ap (map (lexeme_at bytes)) (one_token_list bytes c.tokens.result.now tokens c.tokens.ensures.tokens are))
