use Rattle.std.proofs.Common.{sym, ◌∙◌, true≢false}
use Rattle.proto_edit_rename.proofs.OptionNames.{new, new_asked, new_plain, none_written, old, old_asked, old_plain, old_text}
use Rattle.proto_edit_rename.proofs.option_checks.names_options.Goals as goal

pub returns-then-not-has_written : goal.returns-then-not-has_written
returns-then-not-has_written c = λ reads r t h.
    none_written c.args.linked.now.files reads r c.args.target t h c.args.to.now (λ w. true≢false (sym ((rw c.files.ensures.files at c.has_written.ensures).1 w) ∙ c.if-not-has_written.true))

pub returns-then-is_fixed : goal.returns-then-is_fixed
returns-then-is_fixed c = λ reads r t h.
    let files = c.args.linked.now.files in
    let a = c.args.target in
    let to = c.args.to.now in
    old_asked files reads r a t h to ((rw c.files.ensures.files at c.has_written.ensures).0 c.if-not-has_written.false)
    (sym c.if-is_fixed.true ∙ c.is_fixed.ensures (old files reads r a t h to) (old_plain files reads r a t h to) (old_text files reads r a t h to))

pub returns : goal.returns
returns c = λ reads r t h.
    let files = c.args.linked.now.files in
    let a = c.args.target in
    let to = c.args.to.now in
    new_asked files reads r a t h to ((rw c.files.ensures.files at c.has_written.ensures).0 c.if-not-has_written.false)
    (sym c.if-is_fixed.false ∙ c.is_fixed.ensures (old files reads r a t h to) (old_plain files reads r a t h to) (old_text files reads r a t h to))
    c.is_fixed-2.result (c.is_fixed-2.ensures (new files reads r a t h to) (new_plain files reads r a t h to c.requires.word) (c.in_ok-name.ensures reads r t h ∙ sym c.as_str.ensures.value))
