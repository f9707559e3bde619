use Rattle.std.proofs.Common.{◌≡◌, ◌<◌, ◌==◌, List, [], filter, get_or, length, not, sym, ◌∙◌, ap, arith, subst, All, length-set}
use Rattle.proto_base.proofs.Common.{Vec, get_or-map, All-set}
use Rattle.proto_names_imports.specs.declared.import.FileImport.{FileImport}
use Rattle.proto_edit_statements.proofs.LinkedImports.{copied_imports}
use Rattle.proto_edit_statements.proofs.SeenThen.{if_both, seen_less}
use Rattle.proto_edit_statement_laws.proofs.SameImports.{all_filtered}
use Rattle.proto_edit_statements.proofs.imports.seen_without.Goals as goal

pub all_seen-requires-clause-within : goal.all_seen-requires-clause-within
all_seen-requires-clause-within c =
    let all = c.linked_imports-all.result.now in
    let items = c.in_ok-imports.imports.items in
    let imports = copied_imports c.args.linked.now.files all items c.in_ok-imports.ensures c.linked_imports-all.ensures in
    let count = c.linked_imports-all.ensures.len in
    let within = c.requires in
    let inside : c.args.file < length all = omega (arith, within, count) in
    let Names : FileImport → Type 0 = λ i. i.to < length c.args.linked.now.files in
    let own = c.deref.ensures.value ∙ ap (λ v. v.items) c.index-all-file.is in
    let here = c.linked_imports-all.ensures.within c.args.file c.index-all-file.result inside in
    let left : All Names c.in_ok-left.left.items = subst (All Names) (sym c.in_ok-left.ensures) (all_filtered Names (λ x. not (x.to == c.args.to)) c.deref.result.now (subst (All Names) (sym own) here)) in
    let after = c.deref-2.ensures.value in
    let set : All (λ v. All Names v.items) c.deref-2.result.now = subst (All (λ v. All Names v.items)) (sym after) (All-set (λ v. All Names v.items) items c.args.file c.in_ok-left.left left imports.within) in
    let long : length c.deref-2.result.now ≡ length c.args.linked.now.files = ap (λ (z : List (Vec FileImport)). length z) after ∙ length-set items c.args.file c.in_ok-left.left ∙ imports.len in
    subst (λ n. All (λ v. All (λ (i : FileImport). i.to < n) v.items) c.deref-2.result.now) (sym long) set

pub returns : goal.returns
returns c = if_both c.all_seen.result c.all_seen.ensures.len c.all_seen.ensures.exact (λ seen len exact reads are path place.
    (let all = c.linked_imports-all.result.now in
    let items = c.in_ok-imports.imports.items in
    let imports = copied_imports c.args.linked.now.files all items c.in_ok-imports.ensures c.linked_imports-all.ensures in
    let count = c.linked_imports-all.ensures.len in
    let within = c.requires in
    let inside : c.args.file < length all = omega (arith, within, count) in
    let own = c.deref.ensures.value ∙ ap (λ v. v.items) c.index-all-file.is ∙ sym (get_or-map (λ v. v.items) all c.args.file c.index-all-file.result [] inside)
    ∙ ap (λ (z : List (List FileImport)). get_or z c.args.file []) (sym c.in_ok-imports.ensures) in
    seen_less c.args.linked.now.files reads are items imports c.args.file c.requires c.deref-2.result.now c.in_ok-left.left c.deref-2.ensures.value seen.items len exact c.args.to path place
    (c.in_ok-left.ensures ∙ ap (filter (λ (x : FileImport). not (x.to == c.args.to))) own)))
