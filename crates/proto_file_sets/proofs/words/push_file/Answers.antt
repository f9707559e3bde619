use Rattle.std.proofs.Common.{◌++◌, ◌∷◌, [], cond, ap, sym, ◌∙◌}
use Rattle.std.proofs.lemmas.List.{append-nil}
use Rattle.proto_file_sets.proofs.words.push_file.Goals as goal

pub returns-then-has_bit : goal.returns-then-has_bit
returns-then-has_bit c =
    let files = c.args.files.now.items in
    let file = c.args.file in
    c.in_ok-push.ensures.items
    ∙ ap (λ b. files ++ cond b (file ∷ []) []) (sym (sym c.has_bit.ensures ∙ c.if-has_bit.true))

pub returns : goal.returns
returns c =
    let files = c.args.files.now.items in
    let file = c.args.file in
    sym (append-nil files) ∙ ap (λ b. files ++ cond b (file ∷ []) []) (sym (sym c.has_bit.ensures ∙ c.if-has_bit.false))
