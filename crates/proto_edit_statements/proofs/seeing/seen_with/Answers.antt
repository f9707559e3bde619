use Rattle.std.proofs.Common.{◌≡◌, ◌<◌, [], ◌∷◌, ◌++◌, length, sym, ◌∙◌, ap, subst, All}
use Rattle.proto_base.proofs.Common.{All-push, IfOk-weaker, get_or-map}
use Rattle.proto_names_imports.specs.declared.import.FileImport.{FileImport}
use Rattle.proto_edit_statements.proofs.SeenMore.{marks_more, new_import, own_more}
use Rattle.proto_edit_statements.proofs.seeing.seen_with.Goals as goal

pub seen_from-requires-clause-own : goal.seen_from-requires-clause-own
seen_from-requires-clause-own c =
    let Names : FileImport → Type 0 = λ i. i.to < length c.args.imports.now in
    let own = c.deref.ensures.value ∙ ap (λ v. v.items) c.index-imports-file.is in
    let here = subst (All Names) (sym own) (c.requires.within c.args.file c.index-imports-file.result c.requires.file) in
    let pushed = c.deref-2.ensures.value ∙ c.in_ok-push.ensures.items ∙ ap (λ z. z ++ new_import c.args.to ∷ []) c.in_ok-own.ensures.items in
    subst (All Names) (sym pushed) (All-push Names c.deref.result.now (new_import c.args.to) here c.requires.to)

pub returns : goal.returns
returns c =
    let items = c.args.imports.now in
    let own = c.deref.ensures.value ∙ ap (λ v. v.items) c.index-imports-file.is ∙ sym (get_or-map (λ v. v.items) items c.args.file c.index-imports-file.result [] c.requires.file) in
    let pushed : c.deref-2.result.now ≡ own_more items c.args.file c.args.to =
    c.deref-2.ensures.value ∙ c.in_ok-push.ensures.items ∙ ap (λ z. z ++ new_import c.args.to ∷ []) (c.in_ok-own.ensures.items ∙ own) in
    IfOk-weaker c.seen_from.result _ _ (λ seen exact w files imports.
    marks_more items c.requires.within c.args.file c.args.to c.requires.file c.requires.to c.deref-2.result.now pushed seen exact w files imports) c.seen_from.ensures.exact
