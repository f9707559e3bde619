use Rattle.std.proofs.Common.{◌∷◌, [], refl, arith, drop, if◌then◌else◌}
use Rattle.proto_edit_rename.specs.MadeChanges.{marked_tokens}
use Rattle.proto_base.proofs.Turns.{all_listed, both_turn}
use Rattle.proto_edit_rename.proofs.changing.tokens_with_marks.Goals as goal

pub loop-place-preserved : goal.loop-place-preserved
loop-place-preserved c =
    let less = c.loop-place-test.true in
    let same = c.requires in
    both_turn marked_tokens (λ t m. if m then t ∷ [] else []) (λ t ts m ms. refl) c.args.tokens.now c.args.marks.now c.loop-place.place
    _ _ _ _ c.loop-place.found.items _ _ less (omega (arith, less, same)) refl refl c.in_ok-push_if.ensures c.loop-place.invariant

pub returns : goal.returns
returns c = all_listed (λ ts. marked_tokens ts (drop c.loop-place.place c.args.marks.now)) refl c.args.tokens.now c.loop-place.place _ _ c.loop-place-test.false c.loop-place.invariant
