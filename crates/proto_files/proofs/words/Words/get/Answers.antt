use Rattle.std.proofs.Common.{List, sym, ap, ◌∙◌, arith}
use Rattle.proto_text.proofs.Common.{word_at, Lexeme}
use Rattle.proto_files.specs.GivenFiles.{file_at}
use Rattle.proto_files.proofs.WordsAt.{word_past}
use Rattle.proto_files.proofs.words.Words.get.Goals as goal

pub returns-else-index-self : goal.returns-else-index-self
returns-else-index-self c =
    let bytes = (file_at c.self.inside.files.now c.self.inside.file).bytes in
    sym (word_past bytes c.self.inside.tokens.now c.args.index (omega (arith, c.if-index-self.false))) ∙ ap (λ (ls : List Lexeme). word_at ls c.args.index) c.self.view_is
