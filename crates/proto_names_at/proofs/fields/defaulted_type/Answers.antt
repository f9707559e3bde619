use Rattle.std.proofs.Common.{Option, option_map, map, sym, ap, ◌∙◌}
use Rattle.proto_tree.specs.File.{tree_of_file}
use Rattle.proto_ast.specs.Parts.{FieldOf}
use Rattle.proto_ast.specs.Views.{field_of}
use Rattle.proto_ast.specs.declared.fields.FieldAt.{FieldAt}
use Rattle.proto_resolved.specs.Blocks.{block_of}
use Rattle.proto_names_at.proofs.DefaultFields.{fields_read}
use Rattle.proto_names_at.proofs.fields.defaulted_type.Goals as goal

pub returns-in-Some : goal.returns-in-Some
returns-in-Some c = λ reads are.
    sym (ap (λ (o : Option FieldAt). option_map (λ (f : FieldOf). f.kind) (option_map field_of o)) c.in-Some.is)
    ∙ ap (option_map (λ (f : FieldOf). f.kind)) (c.in_ok-field.ensures
    ∙ fields_read c.args.files.now reads are c.args.place.file c.requires c.scene-scene.result (c.scene-scene.ensures reads are) (tree_of_file c.tree.result.now) c.tree.ensures c.args.place.token (map block_of c.deref.result.now) (ap (map block_of) c.deref.ensures.value ∙ c.in_ok-blocks.ensures))

pub returns : goal.returns
returns c = λ reads are.
    sym (ap (λ (o : Option FieldAt). option_map (λ (f : FieldOf). f.kind) (option_map field_of o)) c.in-None.is)
    ∙ ap (option_map (λ (f : FieldOf). f.kind)) (c.in_ok-field.ensures
    ∙ fields_read c.args.files.now reads are c.args.place.file c.requires c.scene-scene.result (c.scene-scene.ensures reads are) (tree_of_file c.tree.result.now) c.tree.ensures c.args.place.token (map block_of c.deref.result.now) (ap (map block_of) c.deref.ensures.value ∙ c.in_ok-blocks.ensures))
