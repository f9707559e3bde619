use Rattle.std.proofs.Common.{ap, ◌∙◌, arith}
use Rattle.proto_ast.specs.Parts.{options_in, statement_options}
use Rattle.proto_tree.specs.File.{item_tree, trees}
use Rattle.proto_ast.proofs.Statements.{all_parts, parts_turn}
use Rattle.proto_ast.proofs.option_statements.file_options.Goals as goal

pub loop-item-preserved : goal.loop-item-preserved
loop-item-preserved c = parts_turn statement_options item_tree c.deref-item-items.result.now c.loop-item.item-index c.item-item.result _ _ _ c.loop-item-test.true c.item-item.is c.in_ok-push_file_option.ensures c.loop-item.invariant

pub returns : goal.returns
returns c =
    all_parts statement_options item_tree c.deref-item-items.result.now c.loop-item.item-index _ _ (omega arith) c.loop-item.invariant
    ∙ ap (λ items. options_in (trees item_tree items)) c.deref-item-items.ensures.value
