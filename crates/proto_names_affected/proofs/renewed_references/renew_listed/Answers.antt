use Rattle.std.proofs.Common.{◌≡◌, ◌+◌, ◌<◌, List, [], length, get_or, map, refl, sym, ◌∙◌, ap, subst, arith}
use Rattle.std.proofs.lemmas.List.{get_or-map, length-map, map-set}
use Rattle.proto_base.specs.Undone.{AreWithin}
use Rattle.proto_names_table.specs.declared.ids.RefId.{RefId}
use Rattle.proto_names_affected.proofs.Renewing.{AreRenewedTo, Unmarked, none_yet, one_renewed, renewed_all}
use Rattle.proto_names_affected.proofs.renewed_references.renew_listed.Goals as goal

pub loop-k-init : goal.loop-k-init
loop-k-init c = record {
  undone = refl;
  len = refl;
  within = λ h. h;
  renewed = none_yet c.args.marks.now c.args.rows.now (map (λ v. v.items) c.args.lists.now) (map (λ v. v.items) c.args.references.now.items);
}

pub change_at-requires : goal.change_at-requires
change_at-requires c = omega (arith, c.requires.within c.loop-k.k 0 c.loop-k-test.true, c.loop-k.invariant.len)

pub loop-k-preserved : goal.loop-k-preserved
loop-k-preserved c =
    let k = c.loop-k.k in
    let l = c.loop-k-test.true in
    let row = get_or c.args.rows.now k 0 in
    let vs = c.loop-k.references.items in
    let lists : List (List RefId) = map (λ v. v.items) c.args.lists.now in
    let old : List (List RefId) = map (λ v. v.items) c.args.references.now.items in
    let now : List (List RefId) = map (λ v. v.items) vs in
    let n = length-map vs (λ v. v.items) in
    let within : row < length vs = omega (arith, c.requires.within k 0 l, c.loop-k.invariant.len) in
    let had : c.deref.result.now ≡ get_or now row [] = c.deref.ensures.value ∙ ap (λ v. v.items) c.index.ensures ∙ sym (get_or-map (λ v. v.items) vs row c.index.result.now [] within) in
    let fresh : c.deref-in-loop-k.result.now ≡ get_or lists k [] = c.deref-in-loop-k.ensures.value ∙ ap (λ v. v.items) c.index-lists-k.is ∙ sym (get_or-map (λ v. v.items) c.args.lists.now k c.index-lists-k.result [] (omega (arith, l, c.requires.paired))) in
    record {
      undone = c.change_at.ensures.undone ∙ c.loop-k.invariant.undone;
      len = c.change_at.ensures.len ∙ c.loop-k.invariant.len;
      within = λ h. subst (λ n. AreWithin n c.change_at.new.log.items) c.loop-k.invariant.len (c.change_at.ensures.within (subst (λ n. AreWithin n c.loop-k.log.items) (sym c.loop-k.invariant.len) (c.loop-k.invariant.within h)));
      renewed = subst (AreRenewedTo (k + 1) c.args.marks.now c.args.rows.now lists old)
          (sym (ap (map (λ v. v.items)) c.in_ok-change_at.ensures.items ∙ map-set (λ v. v.items) vs row c.in_ok-list.list))
          (one_renewed k c.args.marks.now c.args.rows.now lists old now c.in_ok-list.list.items l (omega (arith, within, n)) c.loop-k.invariant.renewed
          (λ all rising stay marked. c.in_ok-list.ensures.exact all rising (stay ∙ ap (Unmarked c.args.marks.now) (sym had)) (marked ∙ sym fresh)));
    }

pub returns-clause-renewed : goal.returns-clause-renewed
returns-clause-renewed c =
    renewed_all c.loop-k.k c.args.marks.now c.args.rows.now (map (λ v. v.items) c.args.lists.now) (map (λ v. v.items) c.args.references.now.items) (map (λ v. v.items) c.loop-k.references.items)
    c.loop-k-test.false c.loop-k.invariant.renewed
