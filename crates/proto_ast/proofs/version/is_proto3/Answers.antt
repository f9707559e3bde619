use Rattle.std.proofs.Common.{sym, ap, ◌∙◌, arith}
use Rattle.std.proofs.lemmas.List.{at_drop_all}
use Rattle.proto_tree.specs.File.{item_tree, trees}
use Rattle.proto_ast.specs.Scenes.{is_proto3, value_in}
use Rattle.proto_ast.proofs.Statements.{not_proto3_here, proto3_here}
use Rattle.proto_ast.proofs.version.is_proto3.Goals as goal

pub loop-item-preserved : goal.loop-item-preserved
loop-item-preserved c =
    not_proto3_here (value_in c.args.words.now) c.deref-item-items.result.now c.loop-item.item-index c.item-item.result c.loop-item-test.true c.item-item.is (sym c.item_says_proto3.ensures ∙ c.if-item_says_proto3.false)
    ∙ c.loop-item.invariant

pub returns-then-item_says_proto3 : goal.returns-then-item_says_proto3
returns-then-item_says_proto3 c =
    proto3_here (value_in c.args.words.now) c.deref-item-items.result.now c.loop-item.item-index c.item-item.result c.loop-item-test.true c.item-item.is (sym c.item_says_proto3.ensures ∙ c.if-item_says_proto3.true)
    ∙ c.loop-item.invariant ∙ ap (λ items. is_proto3 (value_in c.args.words.now) (trees item_tree items)) c.deref-item-items.ensures.value

pub returns : goal.returns
returns c =
    sym (at_drop_all (λ items. is_proto3 (value_in c.args.words.now) (trees item_tree items)) c.deref-item-items.result.now c.loop-item.item-index (omega arith))
    ∙ c.loop-item.invariant ∙ ap (λ items. is_proto3 (value_in c.args.words.now) (trees item_tree items)) c.deref-item-items.ensures.value
