use Rattle.std.proofs.Common.{◌∙◌}
use Rattle.proto_desc_numbers.specs.NumberFlaws.{share}
use Rattle.proto_desc_numbers.proofs.FlawLists.{flags_length_of}
use Rattle.proto_desc_numbers.proofs.numbers.add_overlaps.Goals as goal

pub add_marked-requires : goal.add_marked-requires
add_marked-requires c = flags_length_of share (λ r. r.token) c.args.ranges.now c.deref.result.now c.deref-2.result.now (c.deref.ensures.value ∙ c.in_ok-tokens.ensures) (c.deref-2.ensures.value ∙ c.in_ok-flags.ensures)
