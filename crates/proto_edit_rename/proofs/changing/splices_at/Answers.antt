use Rattle.std.proofs.Common.{◌≡◌, ◌∷◌, [], List, map, refl, sym, subst, IfOk}
use Rattle.proto_text.specs.Edits.{AreShort, Edit}
use Rattle.proto_edit_rename.specs.MadeChanges.{word_put}
use Rattle.proto_base.proofs.Turns.{all_listed, listed_turn}
use Rattle.proto_edit_rename.proofs.changing.splices_at.Goals as goal

pub loop-token-preserved : goal.loop-token-preserved
loop-token-preserved c =
    let put = word_put c.args.source.now c.args.to.now in
    listed_turn (map put) (λ t. put t ∷ []) (λ t ts. refl) c.args.tokens.now c.loop-token.token-index _ _ _ _ _ c.loop-token-test.true refl c.in_ok-push_splice.ensures c.loop-token.invariant

pub in_order-requires : goal.in_order-requires
in_order-requires c =
    let put = word_put c.args.source.now c.args.to.now in
    subst (AreShort 0 0) (sym (all_listed (map put) refl c.args.tokens.now c.loop-token.token-index _ _ c.loop-token-test.false c.loop-token.invariant)) c.requires.short

pub returns : goal.returns
returns c =
    let put = word_put c.args.source.now c.args.to.now in
    subst (λ (es : List Edit). IfOk c.in_order.result (λ s. s ≡ es)) (all_listed (map put) refl c.args.tokens.now c.loop-token.token-index _ _ c.loop-token-test.false c.loop-token.invariant) c.in_order.ensures
