use Rattle.std.proofs.Common.{get_or, subst, sym, ap, ◌∙◌}
use Rattle.proto_base.proofs.Common.{none-some, same_Some}
use Rattle.proto_names_rules.specs.Grown.{at}
use Rattle.proto_names.specs.Common.{meant_at}
use Rattle.proto_desc_extensions.specs.Common.{IsPlaceMeant, extended_at}
use Rattle.proto_desc_extensions.proofs.Extendees.{file_there, first_is, meant_none, meant_some, token_there}
use Rattle.proto_desc_extensions.proofs.OptionFlaws.{extends_none, extends_there}
use Rattle.proto_desc_extensions.proofs.options.place_meant.Goals as goal

pub returns-in_err-meant : goal.returns-in_err-meant
returns-in_err-meant c = λ reads are.
    (let files = c.args.at.now.linked.now.files in
    let l = c.args.at.now.linked.now.link in
    let link = c.link-link.ensures.linked.link reads are in
    let r = c.args.name.now in
    let first = c.unwrap_or-first.ensures ∙ first_is r.dot r.words in
    let none = meant_none files reads l link c.args.at.now.file c.requires r (sym ((rw c.link-link.ensures.link at c.in_err-meant.ensures) ∙ ap (meant_at l c.args.at.now.file) first)) in
    subst (IsPlaceMeant files reads c.args.at.now.file r) (sym c.from_residual.ensures) (extends_none files reads l link c.args.at.now.file r none))

pub returns-in_err-file : goal.returns-in_err-file
returns-in_err-file c = λ reads are.
    (let files = c.args.at.now.linked.now.files in
    let r = c.args.name.now in
    let first = c.unwrap_or-first.ensures ∙ first_is r.dot r.words in
    let m = meant_some files reads c.args.at.now.linked.now.link (c.link-link.ensures.linked.link reads are) c.args.at.now.file c.requires r c.in_ok-meant.meant.row (sym ((rw c.link-link.ensures.link at c.in_ok-meant.ensures) ∙ ap (meant_at c.args.at.now.linked.now.link c.args.at.now.file) first)) in
    absurd (none-some _ ((rw c.link-link.ensures.link at c.in_err-file.ensures.exact) ∙ file_there files reads c.args.at.now.linked.now.link (c.link-link.ensures.linked.link reads are) c.args.at.now.file c.requires r c.in_ok-meant.meant.row m)))

pub returns-in_err-token : goal.returns-in_err-token
returns-in_err-token c = λ reads are.
    (let files = c.args.at.now.linked.now.files in
    let r = c.args.name.now in
    let first = c.unwrap_or-first.ensures ∙ first_is r.dot r.words in
    let m = meant_some files reads c.args.at.now.linked.now.link (c.link-link.ensures.linked.link reads are) c.args.at.now.file c.requires r c.in_ok-meant.meant.row (sym ((rw c.link-link.ensures.link at c.in_ok-meant.ensures) ∙ ap (meant_at c.args.at.now.linked.now.link c.args.at.now.file) first)) in
    absurd (none-some _ ((rw c.link-link.ensures.link at c.in_err-token.ensures) ∙ token_there files reads c.args.at.now.linked.now.link (c.link-link.ensures.linked.link reads are) c.args.at.now.file c.requires r c.in_ok-meant.meant.row m)))

pub returns : goal.returns
returns c = λ reads are.
    (let files = c.args.at.now.linked.now.files in
    let l = c.args.at.now.linked.now.link in
    let link = c.link-link.ensures.linked.link reads are in
    let r = c.args.name.now in
    let row = c.in_ok-meant.meant.row in
    let first = c.unwrap_or-first.ensures ∙ first_is r.dot r.words in
    let m = meant_some files reads l link c.args.at.now.file c.requires r row (sym ((rw c.link-link.ensures.link at c.in_ok-meant.ensures) ∙ ap (meant_at l c.args.at.now.file) first)) in
    let declared = same_Some _ _ ((rw c.link-link.ensures.link at c.in_ok-file.ensures.exact) ∙ file_there files reads l link c.args.at.now.file c.requires r row m) in
    let token = same_Some _ _ ((rw c.link-link.ensures.link at c.in_ok-token.ensures) ∙ token_there files reads l link c.args.at.now.file c.requires r row m) in
    ap (λ file. extended_at files reads (at file c.in_ok-token.token)) declared
    ∙ ap (λ t. extended_at files reads (at (get_or m.has.files 0 0) t)) token
    ∙ extends_there files reads l link c.args.at.now.file c.requires r row m)
