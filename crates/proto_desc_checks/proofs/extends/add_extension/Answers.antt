use Rattle.proto_base.proofs.Common.{on_ok_weaker, then_added}
use Rattle.proto_ast.specs.Views.{field_of}
use Rattle.proto_ast.specs.declared.options.Element.TheVariants as element
use Rattle.proto_desc_checks.specs.FieldFlaws.{field_flaws, required_extensions}
use Rattle.proto_desc_checks.proofs.extends.add_extension.Goals as goal

pub returns : goal.returns
returns c =
    let scene = c.args.scene.now in
    let field = field_of c.args.field in
    on_ok_weaker c.add_field_flaws.result
    (then_added (required_extensions scene field.label) (field_flaws scene element.Extension field) c.args.found.now.items c.add_required.new.found.items _ c.in_ok-add_required.ensures)
    c.add_field_flaws.ensures
