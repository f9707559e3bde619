use Rattle.std.proofs.Common.{◌≡◌, suc, ◌+◌, List, [], ◌++◌, get_or, map, take, sym, ◌∙◌, ap, subst, arith, take_all}
use Rattle.std.proofs.lemmas.List.{get_or-map, length-map}
use Rattle.proto_names_table.specs.declared.ids.Meant.{Meant}
use Rattle.proto_names_affected.specs.Gathering.{AreRowsBelow, Gathers, marked_meant}
use Rattle.proto_names_affected.proofs.Rows.{gathers_more, gathers_none, if_marked, marked_more}
use Rattle.proto_names_affected.proofs.gathering.Gathered.add_marked.Goals as goal

pub loop-file-init : goal.loop-file-init
loop-file-init c = gathers_none c.args.self.now c.requires.sound

pub add_if_marked-requires-clause-sound : goal.add_if_marked-requires-clause-sound
add_if_marked-requires-clause-sound c = c.loop-file.invariant.sound

pub add_if_marked-requires-clause-within : goal.add_if_marked-requires-clause-within
add_if_marked-requires-clause-within c =
    let here = c.as_slice.ensures ∙ ap (λ v. v.items) c.index-meant-file.is in
    subst (λ n. AreRowsBelow n c.as_slice.result.now) (sym c.loop-file.invariant.count)
    (subst (AreRowsBelow c.args.self.now.count) (sym here) (c.requires.within c.loop-file.file c.index-meant-file.result c.loop-file-test.true))

pub loop-file-preserved : goal.loop-file-preserved
loop-file-preserved c =
    let marks = c.args.marks.now in
    let file = c.loop-file.file in
    let mss : List (List Meant) = map (λ v. v.items) c.args.meant.now in
    let l = c.loop-file-test.true in
    let n = length-map c.args.meant.now (λ v. v.items) in
    let here : c.as_slice.result.now ≡ get_or mss file [] = c.as_slice.ensures ∙ ap (λ v. v.items) c.index-meant-file.is ∙ sym (get_or-map (λ v. v.items) c.args.meant.now file c.index-meant-file.result [] l) in
    let zero_more : file ≡ 0 + file = omega arith in
    let front = marked_meant marks 0 (take file mss) in
    let one_more : suc file ≡ file + 1 = omega arith in
    subst (Gathers c.args.self.now c.add_if_marked.new.self)
    (ap (λ ms. front ++ if_marked marks file ms) here ∙ ap (λ k. front ++ if_marked marks k (get_or mss file [])) zero_more ∙ sym (marked_more marks 0 file mss (omega (arith, l, n))) ∙ ap (λ k. marked_meant marks 0 (take k mss)) one_more)
    (gathers_more c.args.self.now c.loop-file.self c.add_if_marked.new.self front (if_marked marks file c.as_slice.result.now) c.loop-file.invariant c.in_ok-add_if_marked.ensures)

pub returns : goal.returns
returns c =
    let mss : List (List Meant) = map (λ v. v.items) c.args.meant.now in
    subst (λ z. Gathers c.args.self.now c.loop-file.self (marked_meant c.args.marks.now 0 z)) (take_all c.loop-file.file mss (omega (arith, c.loop-file-test.false, length-map c.args.meant.now (λ v. v.items)))) c.loop-file.invariant
