use Rattle.std.proofs.Common.{◌≡◌, length, map, not, subst, sym, ap, ◌∙◌, string_bytes, IfOk, ◌==◌}
use Rattle.std.specs.HashSet.{contains_text}
use Rattle.proto_text.specs.Texts.{word_at}
use Rattle.proto_edit_captures.specs.Capturing.{bytes_before}
use Rattle.proto_edit_captures.proofs.UsesByTexts.{cons_is, overtakes_is}
use Rattle.proto_edit_captures.proofs.overtaking.is_overtaken.Goals as goal

pub returns : goal.returns
returns c =
    let text = word_at c.args.declared.now.words.now in
    let u = c.args.used.now in
    let rest = u.reference.now.words.rest in
    let behind = c.as_slice-behind.ensures in
    let long = cons_is (λ b. text b.item) rest c.is_empty.result (c.is_empty.ensures ∙ ap (λ bs. length bs == 0) behind) in
    let len = c.bytes_before-len.ensures ∙ ap (λ bs. bytes_before (length c.args.meaning.now) (map (λ b. text b.item) bs)) behind in
    subst (λ z. IfOk c.is_seen_from.result (λ b. b ≡ z))
    (overtakes_is c.args.seen.now.link.now c.args.seen.now.files.now (contains_text c.args.seen.now.packages) text c.args.declared.now.all.now u c.args.meaning.now c.bytes_before-len.result c.saturating_sub.result c.get-first.result.now (not c.is_empty.result) (map string_bytes c.deref.result.now)
    (sym c.is_some.ensures ∙ c.if-is_some.false) c.get-first.ensures len long c.saturating_sub.ensures (ap (map string_bytes) c.deref.ensures.value ∙ c.in_ok-scope.ensures))
    c.is_seen_from.ensures
