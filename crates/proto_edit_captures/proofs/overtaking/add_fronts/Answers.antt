use Rattle.std.proofs.Common.{◌∙◌, true, ap, cond, string_bytes, bytes_eq}
use Rattle.proto_base.proofs.Common.{hash_set_updates_text, contains_text}
use Rattle.proto_names_rules.specs.Forest.{under}
use Rattle.proto_text.specs.Texts.{word_at}
use Rattle.proto_edit_captures.proofs.PackageSets.{one_front}
use Rattle.proto_edit_captures.proofs.overtaking.add_fronts.Goals as goal

pub loop-token-preserved : goal.loop-token-preserved
loop-token-preserved c = λ text. (
    let old = contains_text c.loop-token.packages text in
    let key = string_bytes c.in_ok-from_str.field-0 in
    let copied = c.in_ok-from_str.ensures.ok ∙ c.as_str.ensures.value in
    one_front (word_at c.args.words.now) c.args.tokens.now c.loop-token.token-index 0 c.loop-token-test.true (string_bytes c.loop-token.front) (string_bytes c.extend.new.name) text
    (c.in_ok-extend.ensures ∙ ap (under (string_bytes c.loop-token.front)) c.get.ensures) old (contains_text c.insert.new.self text)
    (hash_set_updates_text key c.loop-token.packages c.insert.new.self true c.in_ok-insert.ensures.updates text ∙ ap (λ z. cond (bytes_eq z text) true old) copied)
    ∙ c.loop-token.invariant text)
