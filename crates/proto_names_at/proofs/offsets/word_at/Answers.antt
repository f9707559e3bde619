use Rattle.std.proofs.Common.{◌≡◌, ◌↔◌, ◌<◌, ℕ, List, Some, length, ap, subst, ◌∙◌, arith}
use Rattle.proto_base.proofs.Common.{none-some}
use Rattle.proto_text.specs.declared.lexer.Token.{Token}
use Rattle.proto_text.proofs.Once.{one_token_list}
use Rattle.proto_files.specs.FilesRead.{read_at}
use Rattle.proto_files.specs.GivenFiles.{file_at}
use Rattle.proto_names_at.specs.Tokens.{IsWordAt}
use Rattle.proto_names_at.proofs.WordsAt.{few_tokens, none_past, stand_apart}
use Rattle.proto_names_at.proofs.offsets.word_at.Goals as goal

pub returns-then-offset-text : goal.returns-then-offset-text
returns-then-offset-text c =
    let bytes = (file_at c.args.files.now c.args.file).bytes in
    let past : length bytes < c.args.offset = subst (λ (t : List ℕ). length t < c.args.offset) (c.as_bytes-text.ensures.value ∙ c.source.ensures) c.if-offset-text.true in
    λ reads are index. (
      λ e. absurd (none-some index e),
      λ h. absurd (none_past bytes (read_at reads c.args.file).tokens (are.tokens c.args.file (omega (arith, c.len.ensures.len, c.if-file-len.false))) c.args.offset past index h),
    )

pub word_in-requires-clause-apart : goal.word_in-requires-clause-apart
word_in-requires-clause-apart c = stand_apart (file_at c.args.files.now c.args.file).bytes c.tokens.result.now c.tokens.ensures.tokens

pub word_in-requires-clause-few : goal.word_in-requires-clause-few
word_in-requires-clause-few c =
    let few = few_tokens (file_at c.args.files.now c.args.file).bytes c.tokens.result.now c.tokens.ensures.tokens in
    let same = ap length (c.as_bytes-text.ensures.value ∙ c.source.ensures) in
    let short = c.as_bytes-text.ensures.short in
    omega (arith, few, same, short)

pub returns : goal.returns
returns c = λ reads are index.
    (let own = are.tokens c.args.file (omega (arith, c.len.ensures.len, c.if-file-len.false)) in
    let same = one_token_list (file_at c.args.files.now c.args.file).bytes c.tokens.result.now (read_at reads c.args.file).tokens c.tokens.ensures.tokens own in
    subst (λ (ts : List Token). (c.word_in.result ≡ Some index) ↔ IsWordAt ts c.args.offset index) same (c.word_in.ensures index))
