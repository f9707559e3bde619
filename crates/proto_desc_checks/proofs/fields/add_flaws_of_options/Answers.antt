use Rattle.std.proofs.Common.{List, ◌++◌, map, ap, ◌∙◌}
use Rattle.proto_base.proofs.Common.{on_ok_weaker, then_added}
use Rattle.proto_ast.proofs.Common.{OptionOf, option_of}
use Rattle.proto_desc_checks.specs.FieldFlaws.{default_flaws, misfit_flaws, option_flaws, proto3_defaults}
use Rattle.proto_desc_checks.proofs.fields.add_flaws_of_options.Goals as goal

pub returns : goal.returns
returns c =
    let scene = c.args.scene.now in
    let field = c.args.field.now in
    let options = map option_of c.options.result.now in
    let defaults = default_flaws scene field ++ proto3_defaults scene field in
    on_ok_weaker c.add_proto3_defaults.result
    (λ e.
    then_added (option_flaws scene c.args.element options) (misfit_flaws scene field ++ defaults) c.args.found.now.items c.add_option_flaws.new.found.items _ c.in_ok-add_option_flaws.ensures
    (then_added (misfit_flaws scene field) defaults c.add_option_flaws.new.found.items c.add_misfits.new.found.items _ c.in_ok-add_misfits.ensures
    (then_added (default_flaws scene field) (proto3_defaults scene field) c.add_misfits.new.found.items c.add_default_flaws.new.found.items _ c.in_ok-add_default_flaws.ensures e))
    ∙ ap (λ (os : List OptionOf). c.args.found.now.items ++ (option_flaws scene c.args.element os ++ (misfit_flaws scene field ++ defaults))) c.options.ensures)
    c.add_proto3_defaults.ensures
