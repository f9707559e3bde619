use Rattle.std.proofs.Common.{◌++◌, ℕ, List, sym, ap, ◌∙◌}
use Rattle.std.specs.String.{string_bytes}
use Rattle.proto_desc.specs.Printing.{open_text}
use Rattle.proto_desc.proofs.PrintedTexts.{begun, not_begun, text_ended}
use Rattle.proto_desc.proofs.json_form.close.Goals as goal
use Rattle.proto_desc.proofs.json_form.close.Goals.{then-is_empty, else-is_empty}

pub returns : goal.returns
returns c = λ files is.
    (let end : List ℕ = c.if-is_empty.end.now in
    let bytes : List ℕ = string_bytes c.args.text.now in
    c.in_ok-push_str.ensures.bytes ∙ ap (λ (z : List ℕ). z ++ end) is
    ∙ text_ended files end
    (λ none. elim c.if-is_empty.branch [
      | then-is_empty w ↦ ap (λ s. s.now) w.end-is
      | else-is_empty w ↦ absurd (not_begun bytes c.args.text.now.bytes.len (sym c.args.text.now.bytes.ok.0) (is ∙ ap open_text none) w.if-is_empty.ensures)
    ])
    (λ f fs some. elim c.if-is_empty.branch [
      | then-is_empty w ↦ absurd (begun bytes c.args.text.now.bytes.len f fs (sym c.args.text.now.bytes.ok.0) (is ∙ ap open_text some) w.if-is_empty.ensures)
      | else-is_empty w ↦ ap (λ s. s.now) w.end-is
    ]))
