use Rattle.std.proofs.Common.{List, ◌++◌, map, sym, ap, ◌∙◌, append-nil}
use Rattle.proto_tree.specs.declared.tree.Item.{Item}
use Rattle.proto_tree.specs.File.{item_tree}
use Rattle.proto_ast.specs.Parts.{BlockOf}
use Rattle.proto_resolved.specs.Blocks.{block_of, holders_in}
use Rattle.proto_resolved.proofs.BlockTrees.{enum_alone, extend_alone, no_holders, one_pushed}
use Rattle.proto_resolved.proofs.blocks.push_item.Goals as goal

pub returns-in_ok-push-in-Enum : goal.returns-in_ok-push-in-Enum
returns-in_ok-push-in-Enum c =
    one_pushed c.args.found.now.items _ _ (item_tree c.args.item.now) c.in_ok-push-in-Enum.ensures.items (ap (λ (m : Item). holders_in (item_tree m)) c.in-Enum.is ∙ enum_alone c.in-Enum.enumeration)

pub returns-in_ok-push-in-Extend : goal.returns-in_ok-push-in-Extend
returns-in_ok-push-in-Extend c =
    one_pushed c.args.found.now.items _ _ (item_tree c.args.item.now) c.in_ok-push-in-Extend.ensures.items (ap (λ (m : Item). holders_in (item_tree m)) c.in-Extend.is ∙ extend_alone c.in-Extend.extend)

pub returns-in-Service : goal.returns-in-Service
returns-in-Service c =
    let found : List BlockOf = map block_of c.args.found.now.items in
    sym (ap (λ (bs : List BlockOf). found ++ bs) (ap (λ (m : Item). holders_in (item_tree m)) c.in-Service.is ∙ no_holders c.in-Service.field-0) ∙ append-nil found)
