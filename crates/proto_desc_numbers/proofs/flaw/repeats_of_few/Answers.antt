use Rattle.std.proofs.Common.{take, ap, ◌∙◌}
use Rattle.std.specs.List.{list_any}
use Rattle.proto_desc_numbers.proofs.FlawLists.{earlier_more}
use Rattle.proto_desc_numbers.proofs.flaw.repeats_of_few.Goals as goal

pub loop-i-preserved : goal.loop-i-preserved
loop-i-preserved g c =
    let same = ap (λ (q : g.row.K.Denot). list_any (λ p. g.K.PartialEq.eq p q) (take c.loop-i.i c.args.keys.now)) c.index-keys-i.is in
    earlier_more g.K.PartialEq.eq c.args.keys.now c.loop-i.i c.index-keys-i.result c.loop-i.flags.items c.push.new.self.items c.has_equal.result c.loop-i-test.true c.loop-i.invariant (c.has_equal.ensures ∙ same) c.in_ok-push.ensures.items
