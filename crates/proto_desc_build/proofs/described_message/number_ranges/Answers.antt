use Rattle.std.proofs.Common.{◌∙◌, sym, ap, map, arith, take_all}
use Rattle.proto_desc_numbers.specs.NumberFlaws.{range_of}
use Rattle.proto_desc_build.specs.Described.{number_range}
use Rattle.proto_descriptors.proofs.Mapped.{map_both}
use Rattle.proto_desc_build.proofs.Levels.{pushed_turn}
use Rattle.proto_desc_build.proofs.described_message.number_ranges.Goals as goal

pub loop-range-preserved : goal.loop-range-preserved
loop-range-preserved c =
    pushed_turn number_range c.deref-range-items.result.now c.loop-range.range-index _ _ _ _ c.loop-range-test.true c.in_ok-push.ensures.items c.number_range.ensures c.loop-range.invariant

pub returns : goal.returns
returns c =
    c.loop-range.invariant
    ∙ ap (map number_range) (take_all c.loop-range.range-index c.deref-range-items.result.now (omega arith) ∙ c.deref-range-items.ensures.value ∙ c.in_ok-ranges.ensures)
    ∙ sym (map_both number_range (range_of c.args.scene.now) (map (λ r. r.now) c.args.written.now))
