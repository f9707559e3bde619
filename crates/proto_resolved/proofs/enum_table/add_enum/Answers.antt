use Rattle.std.proofs.Common.{List, ap, ◌∙◌, arith}
use Rattle.proto_tree.specs.declared.tree.EnumItem.{EnumItem}
use Rattle.proto_tree.specs.File.{enum_item_tree, trees}
use Rattle.proto_resolved.specs.SceneOf.{enum_within}
use Rattle.proto_resolved.proofs.EnumRows.{row_added}
use Rattle.proto_resolved.proofs.enum_table.add_enum.Goals as goal

pub returns-in_ok-insert : goal.returns-in_ok-insert
returns-in_ok-insert c = λ blocks h.
    row_added c.args.words.now c.args.is_proto3 blocks c.args.enumeration.now c.args.rows.now c.insert.new.self c.in_ok-row.row (grind (arith, c.contains_key.ensures, c.if-not-contains_key.true)) c.in_ok-insert.ensures.updates.0
    (c.in_ok-row.ensures ∙ ap (λ (items : List EnumItem). enum_within c.args.words.now c.args.is_proto3 (trees enum_item_tree items)) c.deref.ensures.value) h
