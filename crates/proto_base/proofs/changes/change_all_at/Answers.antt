use Rattle.std.proofs.Common.{◌<◌, length, subst, sym, ◌∙◌, arith, rules}
use Rattle.proto_base.proofs.Common.{YieldsList-from_vec, YieldsList-turn, length_push}
use Rattle.proto_base.specs.Undone.{AreWithin}
use Rattle.proto_base.proofs.WithValues.{next_put}
use Rattle.proto_base.proofs.changes.change_all_at.Goals as goal

pub loop-value-preserved : goal.loop-value-preserved
loop-value-preserved g c =
    let was = c.loop-value in
    let all = YieldsList-from_vec c.args.values.items (search rules) (search rules) in
    let turn = YieldsList-turn all was.yielded _ was.yielded_by _ c.next.new.self c.in-Some.value c.in-Some.is c.next.ensures.steps in
    let lt : length was.yielded < length c.args.values.items = turn.0 in
    record {
      next = omega (arith, was.invariant.next, length_push was.yielded c.in-Some.value);
      undone = c.change_at.ensures.undone ∙ was.invariant.undone;
      len = c.change_at.ensures.len ∙ was.invariant.len;
      within = λ h. subst (λ n. AreWithin n c.change_at.new.log.items) was.invariant.len (c.change_at.ensures.within (subst (λ n. AreWithin n was.log.items) (sym was.invariant.len) (was.invariant.within h)));
      items = next_put c.args.items.now.items was.items.items c.change_at.new.items.items c.args.places.now was.yielded c.in-Some.value was.next was.invariant.next (omega (arith, lt, was.invariant.next, c.requires.paired)) was.invariant.items c.in_ok-change_at.ensures.items;
    }
