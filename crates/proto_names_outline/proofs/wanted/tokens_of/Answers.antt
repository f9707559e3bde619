use Rattle.std.proofs.Common.{List, [], ◌∷◌, map, refl, ap, ◌∙◌, take_all}
use Rattle.proto_tree.specs.declared.tree.Behind.{Behind}
use Rattle.proto_base.proofs.Turns.{pushed_more}
use Rattle.proto_names_outline.proofs.wanted.tokens_of.Goals as goal

pub loop-behind-preserved : goal.loop-behind-preserved
loop-behind-preserved c =
    pushed_more (λ b. b.item) (c.args.words.now.first ∷ []) c.as_slice-behind-items.result.now c.loop-behind.behind-index _ _ c.loop-behind.tokens.items _ c.loop-behind-test.true refl
    c.in_ok-push-2.ensures.items c.loop-behind.invariant

pub returns : goal.returns
returns c =
    c.loop-behind.invariant
    ∙ ap (λ (behind : List (Behind _)). c.args.words.now.first ∷ map (λ b. b.item) behind) (take_all c.loop-behind.behind-index c.as_slice-behind-items.result.now c.loop-behind-test.false ∙ c.as_slice-behind-items.ensures)
