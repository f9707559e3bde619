use Rattle.std.proofs.Common.{◌≡◌, ◌<◌, List, [], length, get_or, map, sym, ◌∙◌, ap, subst, arith, below_more}
use Rattle.std.proofs.lemmas.List.{get_or-map}
use Rattle.std.proofs.lemmas.List.Elements.{All-weaker}
use Rattle.proto_names_table.specs.declared.ids.Meant.{Meant}
use Rattle.proto_names_table.specs.declared.ids.RefId.{RefId}
use Rattle.proto_names_affected.specs.ChangedFiles.{IsChangeMarked}
use Rattle.proto_names_affected.specs.Marking.{IsMarked}
use Rattle.proto_names_affected.specs.declared.kind_rows.KindRow.{KindRow}
use Rattle.proto_names_affected.proofs.Changes.{change_stays}
use Rattle.proto_names_affected.proofs.changed_files.marks_of_changes.Goals as goal

pub loop-k-preserved : goal.loop-k-preserved
loop-k-preserved c =
    let table = c.args.linked.table.now in
    let references : List (List RefId) = map (λ v. v.items) c.args.linked.references.now in
    let meant : List (List Meant) = map (λ v. v.items) c.args.linked.meant.now in
    let before : List (List KindRow) = map (λ v. v.items) c.args.before.now in
    let now : List (List KindRow) = map (λ v. v.items) c.args.now.now in
    let k = c.loop-k.k in
    let was = c.loop-k.marks in
    let marks = c.mark_change.new.marks in
    let stay = c.in_ok-mark_change.ensures.stay in
    let in_before : k < length c.args.before.now = omega (arith, c.loop-k-test.true, c.requires.before) in
    let in_now : k < length c.args.now.now = omega (arith, c.loop-k-test.true, c.requires.now) in
    let own_before : c.deref.result.now ≡ get_or before k [] = c.deref.ensures.value ∙ ap (λ v. v.items) c.index-before-k.is ∙ sym (get_or-map (λ v. v.items) c.args.before.now k c.index-before-k.result [] in_before) in
    let own_now : c.deref-in-loop-k.result.now ≡ get_or now k [] = c.deref-in-loop-k.ensures.value ∙ ap (λ v. v.items) c.index-now-k.is ∙ sym (get_or-map (λ v. v.items) c.args.now.now k c.index-now-k.result [] in_now) in
    record {
      len = stay.count ∙ c.loop-k.invariant.len;
      places = All-weaker (IsMarked was) (IsMarked marks) stay.set c.args.places.now c.loop-k.invariant.places;
      each = below_more (λ j. IsChangeMarked table marks references meant (get_or before j []) (get_or now j [])) k
          (λ j l. change_stays table was marks references meant (get_or before j []) (get_or now j []) stay (c.loop-k.invariant.each j l))
          (subst (λ (ps : List KindRow). IsChangeMarked table marks references meant ps (get_or now k [])) own_before
          (subst (λ (ps : List KindRow). IsChangeMarked table marks references meant c.deref.result.now ps) own_now c.in_ok-mark_change.ensures.marked));
    }
