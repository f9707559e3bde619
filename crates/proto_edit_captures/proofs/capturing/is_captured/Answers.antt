use Rattle.std.proofs.Common.{◌≡◌, length, map, not, subst, sym, ap, ◌∙◌, string_bytes, IfOk, ◌==◌}
use Rattle.proto_text.specs.Texts.{word_at}
use Rattle.proto_edit_captures.specs.Common.{bytes_before, texts_of}
use Rattle.proto_edit_captures.proofs.UsesByTexts.{captures_is, cons_is}
use Rattle.proto_edit_captures.proofs.capturing.is_captured.Goals as goal

pub returns : goal.returns
returns c =
    let text = word_at c.args.declared.now.words.now in
    let u = c.args.used.now in
    let rest = u.reference.now.words.rest in
    let behind = c.as_slice-behind.ensures in
    let long = cons_is (λ b. text b.item) rest c.is_empty.result (c.is_empty.ensures ∙ ap (λ bs. length bs == 0) behind) in
    let len = c.bytes_before-len.ensures ∙ ap (λ bs. bytes_before (length c.args.meaning.now) (map (λ b. text b.item) bs)) behind in
    subst (λ z. IfOk c.is_shown_from.result (λ b. b ≡ z))
    (captures_is c.args.after.now.link.now c.args.after.now.file (texts_of c.args.after.now.names.now) text c.args.declared.now.all.now u c.args.meaning.now c.bytes_before-len.result c.saturating_sub.result c.first_now-word.result.now c.get-first.result.now (not c.is_empty.result) (map string_bytes c.deref.result.now)
    (sym c.is_some.ensures ∙ c.if-is_some.false) c.get-first.ensures len c.first_now-word.ensures (sym c.has_new.ensures ∙ c.if-not-has_new.false) long c.saturating_sub.ensures (ap (map string_bytes) c.deref.ensures.value ∙ c.in_ok-scope.ensures))
    c.is_shown_from.ensures
