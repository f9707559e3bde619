use lib.Utf8.{encode}
use Rattle.std.proofs.Common.{rules, ◌≡◌, ◌++◌, [], ◌∷◌, ap, ◌∙◌}
use Rattle.std.specs.String.{string_bytes}
use Rattle.proto_journal_records.specs.RecordText.{record_text}
use Rattle.proto_journal_records.proofs.writing.line_of.Goals as goal

pub returns-clause-text : goal.returns-clause-text
unfolding encode record_text
returns-clause-text c =
    let text : string_bytes c.unwrap-text.result ≡ c.in_ok-bytes.bytes.items = search rules in
    c.in_ok-push.ensures.bytes ∙ ap (λ s. s ++ 10 ∷ []) (text ∙ c.in_ok-bytes.ensures.text)
