use Rattle.std.proofs.Common.{◌<◌, [], map, refl, sym, ◌∙◌, ap, arith}
use Rattle.proto_base.proofs.Common.{get_or-map, length-map, list_any}
use Rattle.proto_names_imports.proofs.Acyclic.{is_marked_in, leads_back, none_before_more}
use Rattle.proto_names_imports.proofs.Turned.{contains_within}
use Rattle.proto_names_imports.proofs.import_cycles.none_leads_back.Goals as goal

pub returns-then-has_one_in : goal.returns-then-has_one_in
returns-then-has_one_in c =
    let next = map (λ v. v.items) c.args.next.now in
    let back = map (λ v. v.items) c.args.importers.now in
    let e = c.deref.ensures.value ∙ ap (λ v. v.items) c.index-next-file.is ∙ sym (get_or-map (λ v. v.items) c.args.next.now c.loop-file.file c.index-next-file.result [] c.loop-file-test.true) in
    let marks = c.in_ok-leading.ensures.exact in
    let any = ap (list_any (is_marked_in c.in_ok-leading.leading)) (sym e) ∙ sym c.has_one_in.ensures ∙ c.if-has_one_in.true in
    leads_back next back c.loop-file.file c.in_ok-leading.leading marks any

pub loop-file-preserved : goal.loop-file-preserved
loop-file-preserved c =
    let next = map (λ v. v.items) c.args.next.now in
    let back = map (λ v. v.items) c.args.importers.now in
    let e = c.deref.ensures.value ∙ ap (λ v. v.items) c.index-next-file.is ∙ sym (get_or-map (λ v. v.items) c.args.next.now c.loop-file.file c.index-next-file.result [] c.loop-file-test.true) in
    let marks = c.in_ok-leading.ensures.exact in
    let none = ap (list_any (is_marked_in c.in_ok-leading.leading)) (sym e) ∙ sym c.has_one_in.ensures ∙ c.if-has_one_in.false in
    none_before_more next back c.loop-file.file c.in_ok-leading.leading marks none c.loop-file.invariant

pub returns : goal.returns
returns c = (
  λ h file target has walks.
      (let within = contains_within (map (λ v. v.items) c.args.next.now) file target has in
      let count = length-map c.args.next.now (λ v. v.items) in
      let l : file < c.loop-file.file = omega (arith, within, count, c.loop-file-test.false) in
      c.loop-file.invariant file target l has walks),
  λ none. refl,
)
