use Rattle.std.proofs.Common.{◌∙◌}
use Rattle.proto_desc_numbers.proofs.IndexLemmas.{alone_inside}
use Rattle.proto_desc_numbers.proofs.numbers.is_covered.Goals as goal

pub returns : goal.returns
returns c = λ rs is. c.shares.ensures rs is ∙ alone_inside rs c.args.at.number c.alone.result c.alone.ensures.first c.alone.ensures.last
