use Rattle.std.proofs.Common.{ℕ, ◌<◌, List, length, sym, ap, ◌∙◌, subst, arith}
use Rattle.proto_text.specs.declared.lexer.Token.{Token}
use Rattle.proto_text.specs.SourceFacts.{IsSpan, text_at}
use Rattle.proto_files.specs.GivenFiles.{file_at}
use Rattle.proto_files.proofs.LeastOfFiles.{length-read_files}
use Rattle.proto_files.proofs.OwnTokens.{own_bytes, own_spans, own_tokens, text_is_slice, text_is_word}
use Rattle.proto_files.proofs.files.Files.token_text.Goals as goal

pub index-requires : goal.index-requires
index-requires c =
    let files = c.self.inside.files.items in
    let within : c.args.file < length files = omega (arith, length-read_files files, ap length c.self.view_is, c.requires.file) in
    let own = own_tokens files c.args.self.now c.args.file c.index-read.result.now c.self.view_is c.self.invariant.read within c.index-read.ensures c.requires.token.0 c.requires.token.1 in
    omega (arith, ap length own, c.requires.token.2)

pub text-requires : goal.text-requires
text-requires c =
    let files = c.self.inside.files.items in
    let within : c.args.file < length files = omega (arith, length-read_files files, ap length c.self.view_is, c.requires.file) in
    let own = own_tokens files c.args.self.now c.args.file c.index-read.result.now c.self.view_is c.self.invariant.read within c.index-read.ensures c.requires.token.0 c.requires.token.1 in
    let lt : c.args.token < length c.index-read.result.now.tokens.items = omega (arith, ap length own, c.requires.token.2) in
    subst (λ (t : Token). IsSpan c.index-read.result.now.source t.span) (sym c.index.ensures)
    (own_spans files c.args.file c.index-read.result.now c.self.invariant.read within c.index-read.ensures c.args.token c.index.result.now lt)

pub returns-clause-slice : goal.returns-clause-slice
returns-clause-slice c = λ tokens t are there.
    (let files = c.self.inside.files.items in
    let within : c.args.file < length files = omega (arith, length-read_files files, ap length c.self.view_is, c.requires.file) in
    let f = c.index-read.result.now in
    let known = own_tokens files c.args.self.now c.args.file f c.self.view_is c.self.invariant.read within c.index-read.ensures in
    let bytes = (file_at c.args.self.now c.args.file).bytes in
    c.text.ensures
    ∙ ap (λ (text : List ℕ). text_at text c.index.result.now.span) (own_bytes files c.args.self.now c.args.file f c.self.view_is within c.index-read.ensures)
    ∙ text_is_slice bytes f.tokens.items tokens c.args.token t c.index.result.now (known tokens are) c.index.ensures there)

pub returns-clause-word : goal.returns-clause-word
returns-clause-word c = λ tokens are.
    (let files = c.self.inside.files.items in
    let within : c.args.file < length files = omega (arith, length-read_files files, ap length c.self.view_is, c.requires.file) in
    let f = c.index-read.result.now in
    let known = own_tokens files c.args.self.now c.args.file f c.self.view_is c.self.invariant.read within c.index-read.ensures in
    let lt : c.args.token < length f.tokens.items = omega (arith, ap length (known c.requires.token.0 c.requires.token.1), c.requires.token.2) in
    let bytes = (file_at c.args.self.now c.args.file).bytes in
    c.text.ensures
    ∙ ap (λ (text : List ℕ). text_at text c.index.result.now.span) (own_bytes files c.args.self.now c.args.file f c.self.view_is within c.index-read.ensures)
    ∙ text_is_word bytes f.tokens.items tokens c.args.token c.index.result.now (known tokens are) lt c.index.ensures)
