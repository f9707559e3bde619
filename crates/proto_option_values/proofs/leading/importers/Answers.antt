use Rattle.std.proofs.Common.{◌≡◌, [], length, map, sym, ◌∙◌, ap, subst, arith}
use Rattle.std.proofs.lemmas.List.{get_or-map, length-map, length-replicate}
use Rattle.proto_option_values.proofs.ImportsBack.{list_within}
use Rattle.proto_names_imports.proofs.Turned.{HasPut, TurnedBelow, turned_none, turned_step, turned_whole}
use Rattle.proto_option_values.proofs.leading.importers.Goals as goal

pub loop-file-preserved : goal.loop-file-preserved
loop-file-preserved c =
    let e = c.deref.ensures.value ∙ ap (λ v. v.items) c.index-next-file.is ∙ sym (get_or-map (λ v. v.items) c.args.next.now c.loop-file.file c.index-next-file.result [] c.loop-file-test.true) in
    record {
      len = omega (arith, c.in_ok-put_in_all.ensures.len, c.loop-file.invariant.len);
      exact = turned_step (map (λ v. v.items) c.args.next.now) c.loop-file.file (map (λ v. v.items) c.loop-file.back.items) (map (λ v. v.items) c.put_in_all.new.lists.items) c.loop-file.invariant.exact
          (subst (λ z. HasPut (map (λ v. v.items) c.loop-file.back.items) z c.loop-file.file (map (λ v. v.items) c.put_in_all.new.lists.items)) e c.in_ok-put_in_all.ensures.exact);
    }

pub returns-clause-exact : goal.returns-clause-exact
returns-clause-exact c =
    let n : length (map (λ v. v.items) c.args.next.now) ≡ c.loop-file.file = let m = length-map c.args.next.now (λ v. v.items) in omega (arith, m, c.loop-file-test.false, c.loop-file.auto.file-end) in
    turned_whole (map (λ v. v.items) c.args.next.now) c.loop-file.file (map (λ v. v.items) c.loop-file.back.items) n c.loop-file.invariant.exact

pub loop-file-init : goal.loop-file-init
loop-file-init c =
    let next = map (λ v. v.items) c.args.next.now in
    record {
      len = sym (length-map c.in_ok-back.back.items (λ v. v.items)) ∙ ap length c.in_ok-back.ensures ∙ length-replicate (length c.args.next.now) [];
      exact = subst (TurnedBelow next 0) (sym c.in_ok-back.ensures) (turned_none next (length c.args.next.now));
    }

pub put_in_all-requires : goal.put_in_all-requires
put_in_all-requires c =
    list_within (λ v. v.items) (length c.args.next.now) (length c.loop-file.back.items) c.args.next.now c.loop-file.file c.index-next-file.result c.deref.result.now c.loop-file-test.true c.index-next-file.is c.deref.ensures.value (sym c.loop-file.invariant.len)
    c.requires.within
