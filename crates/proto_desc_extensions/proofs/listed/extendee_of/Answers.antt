use Rattle.std.proofs.Common.{Some, sym, ap, subst, ◌∙◌}
use Rattle.proto_base.proofs.Common.{none-some, same_Some}
use Rattle.proto_names_rules.specs.Grown.{at}
use Rattle.proto_names.specs.Common.{meant_at}
use Rattle.proto_ast.specs.Numbers.{past}
use Rattle.proto_desc_numbers.specs.RangeIndex.{IsRangeIndexOf}
use Rattle.proto_desc_extensions.specs.Common.{IsExtendee, extension_ranges_at}
use Rattle.proto_desc_extensions.proofs.Extendees.{file_there, first_is, found_extendee, meant_none, meant_some, text_there, token_there}
use Rattle.proto_desc_extensions.proofs.listed.extendee_of.Goals as goal

pub returns-in_err-meant : goal.returns-in_err-meant
returns-in_err-meant c = λ reads are.
    (let files = c.args.at.now.linked.now.files in
    let r = c.args.reference.now in
    let first = c.unwrap_or-first.ensures ∙ first_is r.dot r.words in
    subst (IsExtendee files reads c.args.at.now.file r) (sym c.from_residual.ensures)
    (meant_none files reads c.args.at.now.linked.now.link (c.link-link.ensures.linked.link reads are) c.args.at.now.file c.requires.file r (sym ((rw c.link-link.ensures.link at c.in_err-meant.ensures) ∙ ap (meant_at c.args.at.now.linked.now.link c.args.at.now.file) first))))

pub returns-in_err-name : goal.returns-in_err-name
returns-in_err-name c = λ reads are.
    (let files = c.args.at.now.linked.now.files in
    let r = c.args.reference.now in
    let first = c.unwrap_or-first.ensures ∙ first_is r.dot r.words in
    let m = meant_some files reads c.args.at.now.linked.now.link (c.link-link.ensures.linked.link reads are) c.args.at.now.file c.requires.file r c.in_ok-meant.meant.row (sym ((rw c.link-link.ensures.link at c.in_ok-meant.ensures) ∙ ap (meant_at c.args.at.now.linked.now.link c.args.at.now.file) first)) in
    absurd (none-some _ ((rw c.link-link.ensures.link at c.in_err-name.ensures) ∙ text_there files reads c.args.at.now.linked.now.link (c.link-link.ensures.linked.link reads are) c.args.at.now.file c.requires.file r c.in_ok-meant.meant.row m)))

pub returns-in_err-declared : goal.returns-in_err-declared
returns-in_err-declared c = λ reads are.
    (let files = c.args.at.now.linked.now.files in
    let r = c.args.reference.now in
    let first = c.unwrap_or-first.ensures ∙ first_is r.dot r.words in
    let m = meant_some files reads c.args.at.now.linked.now.link (c.link-link.ensures.linked.link reads are) c.args.at.now.file c.requires.file r c.in_ok-meant.meant.row (sym ((rw c.link-link.ensures.link at c.in_ok-meant.ensures) ∙ ap (meant_at c.args.at.now.linked.now.link c.args.at.now.file) first)) in
    absurd (none-some _ ((rw c.link-link.ensures.link at c.in_err-declared.ensures.exact) ∙ file_there files reads c.args.at.now.linked.now.link (c.link-link.ensures.linked.link reads are) c.args.at.now.file c.requires.file r c.in_ok-meant.meant.row m)))

pub returns : goal.returns
returns c = λ reads are.
    (let files = c.args.at.now.linked.now.files in
    let l = c.args.at.now.linked.now.link in
    let link = c.link-link.ensures.linked.link reads are in
    let r = c.args.reference.now in
    let row = c.in_ok-meant.meant.row in
    let first = c.unwrap_or-first.ensures ∙ first_is r.dot r.words in
    let m = meant_some files reads l link c.args.at.now.file c.requires.file r row (sym ((rw c.link-link.ensures.link at c.in_ok-meant.ensures) ∙ ap (meant_at l c.args.at.now.file) first)) in
    found_extendee files reads l link c.args.at.now.file c.requires.file r row m (record { name = c.in_ok-name.name; ranges = c.index_at.result }) c.in_ok-declared.declared c.in_ok-token.token
    (same_Some _ _ ((rw c.link-link.ensures.link at c.in_ok-name.ensures) ∙ text_there files reads l link c.args.at.now.file c.requires.file r row m))
    (same_Some _ _ ((rw c.link-link.ensures.link at c.in_ok-declared.ensures.exact) ∙ file_there files reads l link c.args.at.now.file c.requires.file r row m))
    (same_Some _ _ ((rw c.link-link.ensures.link at c.in_ok-token.ensures) ∙ token_there files reads l link c.args.at.now.file c.requires.file r row m))
    (subst (IsRangeIndexOf (extension_ranges_at (Some past) files reads (at c.in_ok-declared.declared c.in_ok-token.token))) (sym c.index_at.ensures) (c.requires.table reads are (at c.in_ok-declared.declared c.in_ok-token.token))))
