use Rattle.std.proofs.Common.{◌++◌, List, ◌∙◌, ap, sym, append-nil}
use Rattle.proto_tree.specs.declared.tree.Item.{Item}
use Rattle.proto_tree.specs.File.{item_tree}
use Rattle.proto_lint_names.proofs.Common.{Found}
use Rattle.proto_lint_names.specs.RulesCommon.{walk_finds}
use Rattle.proto_lint_names.proofs.BlockTrees.{finds_of_extend}
use Rattle.proto_lint_names.proofs.walk.add_item.Goals as goal

pub returns-in-Extend : goal.returns-in-Extend
returns-in-Extend c =
    let found = c.args.found.now in
    let is = ap (λ (i : Item). walk_finds c.args.walk.now c.args.scope.now (item_tree i)) c.in-Extend.is ∙ finds_of_extend c.args.walk.now c.args.scope.now c.in-Extend.field-0 in
    sym (ap (λ (fs : List Found). found ++ fs) is ∙ append-nil found)
