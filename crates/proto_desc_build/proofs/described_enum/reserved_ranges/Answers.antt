use Rattle.std.proofs.Common.{◌∙◌, ap, sym, map, Bor, arith, take_all}
use Rattle.proto_tree.specs.declared.tree.Range.{Range}
use Rattle.proto_tree.specs.declared.tree.Signed.{Signed}
use Rattle.proto_desc_numbers.specs.NumberFlaws.{enum_range_of}
use Rattle.proto_desc_build.specs.Described.{value_range}
use Rattle.proto_descriptors.proofs.Mapped.{map_both}
use Rattle.proto_desc_build.proofs.Levels.{pushed_turn}
use Rattle.proto_desc_build.proofs.described_enum.reserved_ranges.Goals as goal

pub loop-range-preserved : goal.loop-range-preserved
loop-range-preserved c =
    pushed_turn value_range c.deref-range-items.result.now c.loop-range.range-index _ _ _ _ c.loop-range-test.true c.in_ok-push.ensures.items c.value_range.ensures c.loop-range.invariant

pub returns : goal.returns
returns c =
    c.loop-range.invariant
    ∙ ap (map value_range) (take_all c.loop-range.range-index c.deref-range-items.result.now (omega (arith, c.loop-range-test.false)) ∙ c.deref-range-items.ensures.value ∙ c.in_ok-ranges.ensures)
    ∙ sym (map_both value_range (enum_range_of c.args.scene.now) (map {A = Bor (Range Signed)} {B = Range Signed} (λ r. r.now) c.args.written.now))
