use Rattle.std.proofs.Common.{flat_map, ap, ◌∙◌, rules, tests}
use Rattle.std.proofs.lemmas.Iterator.Consumers.{YieldsList-at}
use Rattle.std.proofs.lemmas.Iterator.Splits.{YieldsList-from_slice_split}
use Rattle.proto_base.proofs.Common.{YieldsList-end}
use Rattle.proto_session_files.specs.Homes.{rooted_part}
use Rattle.proto_session_files.proofs.home.rooted.Goals as goal

pub returns : goal.returns
returns c =
    let cut = c.split-part-items.ensures in
    let all = YieldsList-from_slice_split _ _ c.args.path.now cut.rest cut.done cut.closure (λ x r q k. search (rules, tests)) in
    let end = YieldsList-end (YieldsList-at c.into_iter-part-iterator.ensures.into_iter_gives all) c.loop-part.yielded _ c.loop-part.yielded_by _ _ c.in-None.is c.next.ensures.steps in
    c.loop-part.invariant.whole ∙ ap (flat_map rooted_part) end.0
