use Rattle.std.proofs.Common.{List, ◌++◌, map, flat_map, ap, ◌∙◌}
use Rattle.proto_base.proofs.Common.{on_ok_weaker, then_added}
use Rattle.proto_tree.specs.File.{trees, member_tree}
use Rattle.proto_ast.proofs.Common.{FieldOf, closed_ranges, options_in, reserved_names_in, statements, field_of}
use Rattle.proto_ast.specs.declared.options.Element.TheVariants as element
use Rattle.proto_desc_numbers.specs.NumberFlaws.{field_number_flaws, number_of_field, range_of}
use Rattle.proto_desc_checks.specs.Common.{field_flaws, option_flaws, extension_flaws, json_clashes, name_flaws}
use Rattle.proto_desc_checks.proofs.messages.add_flaws_with_fields.Goals as goal

pub returns : goal.returns
returns c =
    let scene = c.args.scene.now in
    let found = c.args.found.now.items in
    let within = trees member_tree c.args.members.now in
    let fields = map field_of c.args.fields.now in
    let numbers = λ (fs : List FieldOf). field_number_flaws (map (range_of scene) (flat_map closed_ranges (statements within))) (map (number_of_field scene) fs) in
    let names = λ (fs : List FieldOf). name_flaws scene (reserved_names_in within) (map (λ f. f.name) fs) in
    let options = option_flaws scene element.Message (options_in within) in
    let rest = extension_flaws scene within ++ options in
    on_ok_weaker c.add_message_options.result
    (λ e.
    then_added (flat_map (field_flaws scene element.Field) fields) (numbers fields ++ (names fields ++ (json_clashes scene fields ++ rest))) found c.add_each_field.new.found.items _ c.in_ok-add_each_field.ensures
    (then_added (numbers fields) (names fields ++ (json_clashes scene fields ++ rest)) c.add_each_field.new.found.items c.add_numbers.new.found.items _ c.in_ok-add_numbers.ensures
    (then_added (names fields) (json_clashes scene fields ++ rest) c.add_numbers.new.found.items c.add_names.new.found.items _ c.in_ok-add_names.ensures
    (then_added (json_clashes scene fields) rest c.add_names.new.found.items c.add_json_clashes.new.found.items _ c.in_ok-add_json_clashes.ensures
    (then_added (extension_flaws scene within) options c.add_json_clashes.new.found.items c.add_extension_flaws.new.found.items _ c.in_ok-add_extension_flaws.ensures e))))
    ∙ ap (λ (fs : List FieldOf). found ++ (flat_map (field_flaws scene element.Field) fs ++ (numbers fs ++ (names fs ++ (json_clashes scene fs ++ rest))))) c.requires)
    c.add_message_options.ensures
