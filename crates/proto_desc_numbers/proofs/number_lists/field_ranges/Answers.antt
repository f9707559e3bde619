use Rattle.std.proofs.Common.{[], ◌∷◌, ◌++◌, refl, ap, ◌∙◌}
use Rattle.proto_ast.specs.declared.ranges.RangeAt.{RangeAt}
use Rattle.proto_desc_numbers.specs.NumberFlaws.{range_of}
use Rattle.proto_base.proofs.Turns.{listed_more, listed_all}
use Rattle.proto_desc_numbers.proofs.number_lists.field_ranges.Goals as goal

pub loop-range-preserved : goal.loop-range-preserved
loop-range-preserved c =
    listed_more (range_of c.args.scene.now) (λ v. v.now) c.args.ranges.now c.loop-range.range-index _ _ c.loop-range.found.items _ c.loop-range-test.true refl
    (c.in_ok-push.ensures.items ∙ ap (λ (one : RangeAt). c.loop-range.found.items ++ one ∷ []) c.range_of.ensures)
    c.loop-range.invariant

pub returns : goal.returns
returns c = listed_all (range_of c.args.scene.now) (λ v. v.now) c.args.ranges.now c.loop-range.range-index c.loop-range.found.items c.loop-range-test.false c.loop-range.invariant
