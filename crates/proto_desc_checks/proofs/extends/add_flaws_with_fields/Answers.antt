use Rattle.std.proofs.Common.{Bool, List, ◌++◌, map, flat_map, ap, ◌∙◌}
use Rattle.proto_base.proofs.Common.{on_ok_weaker, then_added}
use Rattle.proto_base.specs.declared.fault.FaultKind.TheVariants as kind
use Rattle.proto_ast.proofs.Common.{FieldOf, field_of, meant_by}
use Rattle.proto_desc_numbers.proofs.Common.{flaw_if, is_field_number, number_of_field, outside}
use Rattle.proto_desc_checks.specs.FieldFlaws.{flaws_of_extension}
use Rattle.proto_desc_checks.specs.FileFlaws.{bars_extend}
use Rattle.proto_desc_checks.proofs.extends.add_flaws_with_fields.Goals as goal

pub returns : goal.returns
returns c =
    let scene = c.args.scene.now in
    let barred = bars_extend scene.profile scene.is_proto3 (meant_by scene c.args.extend.now.extendee) in
    let found = c.args.found.now.items in
    let fields = map field_of c.args.fields.now in
    let wrong = λ (b : Bool). flaw_if b kind.NotInProto3 c.args.extend.now.keyword in
    let numbers = λ (fs : List FieldOf). outside is_field_number (map (number_of_field scene) fs) in
    let each = λ (fs : List FieldOf). flat_map (flaws_of_extension scene) fs in
    on_ok_weaker c.add_extensions.result
    (λ e.
    then_added (wrong barred) (numbers fields ++ each fields) found c.add_if.new.found.items _ (c.in_ok-add_if.ensures ∙ ap (λ (b : Bool). found ++ wrong b) c.bars_extend-is_barred.ensures)
    (then_added (numbers fields) (each fields) c.add_if.new.found.items c.add_numbers.new.found.items _ c.in_ok-add_numbers.ensures e)
    ∙ ap (λ (fs : List FieldOf). found ++ (wrong barred ++ (numbers fs ++ each fs))) c.requires)
    c.add_extensions.ensures
