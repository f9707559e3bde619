use Rattle.std.proofs.Common.{subst, sym}
use Rattle.proto_desc_numbers.specs.Common.{share, IsRangeIndexOf}
use Rattle.proto_desc_numbers.proofs.FlawLists.{sharing_halves}
use Rattle.proto_desc_numbers.proofs.numbers.+sharing.Goals as goal

pub returns : goal.returns
returns t c =
    let front = c.split_at.result.0.now in
    sharing_halves share c.args.ranges.now front c.split_at.result.1.now _ c.in_ok-flags.flags.items c.add_sharing.new.flags.items c.split_at.ensures.front c.split_at.ensures.back c.in_ok-flags.ensures
    (c.in_ok-add_sharing.ensures front (subst (IsRangeIndexOf front) (sym c.deref.ensures.value) c.in_ok-index.ensures))
