use Rattle.std.proofs.Common.{ℕ, List, sym, ap, ◌∙◌}
use Rattle.proto_files.proofs.Common.{read_at}
use Rattle.proto_names_imports.proofs.Common.{text_of}
use Rattle.proto_names_rules.specs.Grown.{at}
use Rattle.proto_text.proofs.Common.{Lexeme, word_at}
use Rattle.proto_session_replies.specs.Replies.{sent_range}
use Rattle.proto_session_replies.specs.Symbols.{sent_kind}
use Rattle.proto_session_replies.proofs.SentSymbols.{sent_is}
use Rattle.proto_session_replies.proofs.symbols.sent_symbol.Goals as goal

pub returns : goal.returns
returns c = λ reads are first.
    (let s = c.args.symbol.now in
    let t = s.token in
    let word = c.in_ok-name.ensures.ok ∙ (c.get.ensures ∙ ap (λ (ls : List Lexeme). word_at ls t) (c.new.ensures.words (read_at reads 0).tokens (are.tokens 0 c.requires))) in
    record {
      says =
          sent_is (record { name = c.in_ok-name.name; kind = c.sent_kind.result; range = c.sent_range-range.result; selection = c.sent_range-range.result; children = c.new-2.result }) (text_of c.args.files.now reads (at s.location.file t)) (sent_kind s.kind) (sent_range s.location.range)
          (word ∙ ap (λ (k : ℕ). text_of c.args.files.now reads (at k t)) (sym first)) c.sent_kind.ensures c.sent_range-range.ensures c.sent_range-range.ensures c.new-2.ensures.items;
    })
