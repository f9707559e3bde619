use Rattle.std.proofs.Common.{not, ◌++◌, take, ap, ◌∙◌}
use Rattle.proto_base.proofs.Common.{w128, to_z-of_z}
use mir.Val.{of_z, to_z}
use Rattle.proto_base.specs.declared.fault.FaultKind.TheVariants as kind
use Rattle.proto_desc_numbers.specs.NumberFlaws.{broken_ranges, is_sound_range}
use Rattle.proto_desc_numbers.proofs.FlawLists.{flaws_turn, flaws_end}
use Rattle.proto_desc_numbers.proofs.numbers.add_broken_ranges.Goals as goal

pub loop-range-preserved : goal.loop-range-preserved
loop-range-preserved c = flaws_turn (λ r. not (is_sound_range _ _ r)) kind.NumberRange (λ r. r.token) c.args.ranges.now c.loop-range.range-index _ c.args.found.now.items _ _ _ c.loop-range-test.true c.loop-range.invariant (ap not c.is_sound-is_broken.ensures) c.in_ok-add_if.ensures

pub returns : goal.returns
returns c =
    let start = c.args.found.now.items in
    let front = take c.loop-range.range-index c.args.ranges.now in
    let least = to_z-of_z w128 c.args.least c.ranges.least in
    let most = to_z-of_z w128 c.args.most c.ranges.most in
    flaws_end (λ r. not (is_sound_range c.args.least c.args.most r)) kind.NumberRange (λ r. r.token) c.args.ranges.now c.loop-range.range-index start _ c.loop-range-test.false
    (c.loop-range.invariant ∙ ap (λ n. start ++ broken_ranges n (to_z w128 (of_z w128 c.args.most)) front) least ∙ ap (λ n. start ++ broken_ranges c.args.least n front) most)
