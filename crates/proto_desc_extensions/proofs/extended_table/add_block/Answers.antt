use Rattle.std.proofs.Common.{List, ◌++◌, map, sym, ap, subst, ◌∙◌}
use Rattle.proto_base.proofs.Common.{on_ok_weaker}
use Rattle.proto_ast.proofs.Common.{BlockOf, fields_in}
use Rattle.proto_tree.specs.File.{extension_tree, trees}
use Rattle.proto_resolved.specs.Blocks.{block_of, extend_block}
use Rattle.proto_desc_extensions.specs.Common.{AreExtendedRows, Extending, block_extending, extendee_in, extending}
use Rattle.proto_desc_extensions.proofs.ExtendedRows.{none_added}
use Rattle.proto_desc_extensions.proofs.extended_table.add_block.Goals as goal

pub returns-in-Extend : goal.returns-in-Extend
returns-in-Extend c =
    on_ok_weaker c.add_fields.result (λ more reads are es h.
    subst (λ (xs : List Extending). AreExtendedRows xs c.add_fields.new.rows)
    (ap (λ xs. es ++ map (extending c.text_of_meant-extended.result.name.now) (fields_in (trees extension_tree xs))) c.deref.ensures.value
    ∙ ap (λ (text : List _). es ++ map (extending text) (fields_in (extend_block c.in-Extend.extend.now).within)) (c.text_of_meant-extended.ensures reads are)
    ∙ ap (λ (b : BlockOf). es ++ block_extending c.args.linked.now.files reads c.args.file b) (sym (ap block_of c.in-Extend.is)))
    (more es h)) c.add_fields.ensures

pub returns-in-Message : goal.returns-in-Message
returns-in-Message c = λ reads are es h. none_added c.args.linked.now.files reads c.args.file c.args.rows.now c.args.block (ap (λ (b : BlockOf). extendee_in b.header) (ap block_of c.in-Message.is)) es h

pub returns-in-Oneof : goal.returns-in-Oneof
returns-in-Oneof c = λ reads are es h. none_added c.args.linked.now.files reads c.args.file c.args.rows.now c.args.block (ap (λ (b : BlockOf). extendee_in b.header) (ap block_of c.in-Oneof.is)) es h

pub returns-in-Enum : goal.returns-in-Enum
returns-in-Enum c = λ reads are es h. none_added c.args.linked.now.files reads c.args.file c.args.rows.now c.args.block (ap (λ (b : BlockOf). extendee_in b.header) (ap block_of c.in-Enum.is)) es h
