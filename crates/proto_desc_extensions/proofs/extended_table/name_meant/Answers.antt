use Rattle.std.proofs.Common.{option_map, sym, ap, ◌∙◌}
use Rattle.proto_names_rules.proofs.Common.{joined}
use Rattle.proto_names.specs.Common.{meant_at}
use Rattle.proto_desc_extensions.proofs.Extendees.{first_is, meant_none, meant_some, text_there}
use Rattle.proto_desc_extensions.proofs.extended_table.name_meant.Goals as goal

pub returns-in_err-meant : goal.returns-in_err-meant
returns-in_err-meant c = λ reads are.
    (let files = c.args.linked.now.files in
    let r = c.args.reference.now in
    let first = c.unwrap_or-first.ensures ∙ first_is r.dot r.words in
    let none = meant_none files reads c.args.linked.now.link (c.link-link.ensures.linked.link reads are) c.args.file c.requires r (sym ((rw c.link-link.ensures.link at c.in_err-meant.ensures) ∙ ap (meant_at c.args.linked.now.link c.args.file) first)) in
    ap (option_map (λ text. text.now)) c.from_residual.ensures ∙ sym (ap (option_map joined) none))

pub returns : goal.returns
returns c = λ reads are.
    (let files = c.args.linked.now.files in
    let l = c.args.linked.now.link in
    let link = c.link-link.ensures.linked.link reads are in
    let r = c.args.reference.now in
    let row = c.in_ok-meant.meant.row in
    let first = c.unwrap_or-first.ensures ∙ first_is r.dot r.words in
    let m = meant_some files reads l link c.args.file c.requires r row (sym ((rw c.link-link.ensures.link at c.in_ok-meant.ensures) ∙ ap (meant_at l c.args.file) first)) in
    (rw c.link-link.ensures.link at c.name_of.ensures) ∙ text_there files reads l link c.args.file c.requires r row m ∙ sym (ap (option_map joined) m.is))
