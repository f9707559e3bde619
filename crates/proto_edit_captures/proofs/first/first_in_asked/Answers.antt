use Rattle.std.proofs.Common.{◌≡◌, false, sym, ap₂, ◌∙◌}
use Rattle.proto_edit_captures.specs.Common.{first_keys_of, has_to_be_asked, texts_of}
use Rattle.proto_edit_captures.proofs.FilesToAsk.{none_to_ask}
use Rattle.proto_edit_captures.proofs.first.first_in_asked.Goals as goal

pub returns-then-not-concern : goal.returns-then-not-concern
returns-then-not-concern c = λ reads t to r texts.
    (let n = texts_of c.args.names.now in
    let l = c.args.linked.now.link in
    let none : has_to_be_asked (first_keys_of n) l c.args.file n.target ≡ false =
    ap₂ (λ k m. has_to_be_asked k m c.args.file n.target) (sym c.requires.keys) (sym c.link.ensures.link) ∙ sym c.concern.ensures ∙ c.if-not-concern.true in
    none_to_ask c.args.linked.now.files reads t to r l c.link.ensures.clean.link c.args.file c.requires.file c.captures_begin_so.ensures c.visible_is_seen.ensures.shown n texts none)
