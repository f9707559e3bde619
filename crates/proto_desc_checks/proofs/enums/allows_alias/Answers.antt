use Rattle.std.proofs.Common.{◌∙◌, sym, ◌&&◌, codes, rules, tests}
use Rattle.proto_base.proofs.Common.{YieldsList-from_slice, any_from_yields_List, any_map}
use Rattle.proto_ast.proofs.Common.{is_named, truth_of, is_true, OptionOf, text, option_of}
use Rattle.proto_desc_checks.proofs.enums.allows_alias.Goals as goal

pub returns : goal.returns
returns c =
    let scene = c.args.scene.now in
    let test = λ (o : OptionOf). is_named (text scene) (codes "allow_alias") o && is_true (truth_of (text scene) o.value) in
    any_from_yields_List (λ o. test (option_of o)) _ _ _ c.any.ensures.ran (YieldsList-from_slice c.args.options.now cc) (λ x b q k. search (rules, tests))
    ∙ sym (any_map test option_of c.args.options.now)
