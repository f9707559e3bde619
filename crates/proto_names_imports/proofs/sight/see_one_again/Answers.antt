use Rattle.std.proofs.Common.{◌≡◌, ◌<◌, [], length, get_or, sym, ◌∙◌, ap, subst, arith, get_or-set_same}
use Rattle.proto_base.proofs.Common.{get_or_default}
use Rattle.proto_names_rules.proofs.Common.{MarksSeen}
use Rattle.proto_names_imports.proofs.SeenFiles.{walk_marks}
use Rattle.proto_names_imports.proofs.sight.see_one_again.Goals as goal

pub returns-then-is_same-clause-exact : goal.returns-then-is_same-clause-exact
returns-then-is_same-clause-exact c = λ w n same.
    (let file = c.args.file in
    let now = c.in_ok-now.now in
    let own = c.deref.ensures.value ∙ ap (λ v. v.items) c.index-imports-place.is in
    let inside : file < length c.args.seen.now.items = omega (arith, c.requires.file, c.requires.paired) in
    let stood : get_or c.args.seen.now.items file [] ≡ now = get_or_default c.args.seen.now.items file [] c.index.result.now inside ∙ sym c.index.ensures ∙ c.is_same.ensures.0 c.if-is_same.true in
    subst (MarksSeen w file) (sym stood) (walk_marks (λ v. v.items) c.args.imports.now file c.index-imports-place.result c.deref.result.now now c.requires.file c.requires.within own c.in_ok-now.ensures.exact w n same))

pub returns-clause-exact : goal.returns-clause-exact
returns-clause-exact c = λ w n same.
    (let file = c.args.file in
    let now = c.in_ok-now.now in
    let own = c.deref.ensures.value ∙ ap (λ v. v.items) c.index-imports-place.is in
    let inside : file < length c.args.seen.now.items = omega (arith, c.requires.file, c.requires.paired) in
    let stands : get_or c.change_at.new.items.items file [] ≡ now = ap (λ z. get_or z file []) c.in_ok-change_at.ensures.items ∙ get_or-set_same c.args.seen.now.items file now [] inside in
    subst (MarksSeen w file) (sym stands) (walk_marks (λ v. v.items) c.args.imports.now file c.index-imports-place.result c.deref.result.now now c.requires.file c.requires.within own c.in_ok-now.ensures.exact w n same))
