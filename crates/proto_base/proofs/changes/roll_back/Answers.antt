use Rattle.std.proofs.Common.{◌∙◌, ap, sym, length}
use Rattle.std.proofs.lemmas.List.{length-set}
use Rattle.proto_base.specs.Undone.{undone}
use Rattle.proto_base.proofs.TakenBack.{all_but_last, undone_more}
use Rattle.proto_base.proofs.changes.roll_back.Goals as goal

pub loop-change-preserved : goal.loop-change-preserved
loop-change-preserved g c =
    let whole = c.in-Some.ensures.items in
    record {
      undone = sym (undone_more c.pop.new.self.items c.loop-change.items.items c.in-Some.change) ∙ ap (λ log. undone log c.loop-change.items.items) (sym whole) ∙ c.loop-change.invariant.undone;
      len = length-set c.loop-change.items.items c.in-Some.change.place c.in-Some.change.was ∙ c.loop-change.invariant.len;
      within = (all_but_last (length c.args.items.now.items) c.pop.new.self.items c.loop-change.log.items c.in-Some.change whole c.loop-change.invariant.within).0;
    }
