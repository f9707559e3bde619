use Rattle.std.proofs.Common.{ℕ, List, [], map, flat_map, codes, refl, arith, if◌then◌else◌}
use Rattle.proto_ast.proofs.Common.{is_named, OptionOf, text, option_of}
use Rattle.proto_edit_rename_laws.specs.Renamed.{constant_tokens}
use Rattle.proto_edit_rename.specs.Defaults.{spelled}
use Rattle.proto_edit_rename.proofs.DefaultTexts.{spelled_turn}
use Rattle.proto_base.proofs.Turns.{all_listed}
use Rattle.proto_edit_rename.proofs.defaults.push_defaults.Goals as goal

pub loop-option-preserved : goal.loop-option-preserved
loop-option-preserved c =
    let part : OptionOf → List ℕ = λ o. if is_named (text c.args.scene.now) (codes "default") o then constant_tokens o.value else [] in
    spelled_turn (text c.args.scene.now) c.args.old.now part option_of c.args.options.now c.loop-option.option-index c.option-item.result _ _ _ c.loop-option-test.true c.option-item.is c.in_ok-push_default.ensures c.loop-option.invariant

pub returns : goal.returns
returns c =
    let part : OptionOf → List ℕ = λ o. if is_named (text c.args.scene.now) (codes "default") o then constant_tokens o.value else [] in
    all_listed (λ os. spelled (text c.args.scene.now) c.args.old.now (flat_map part (map option_of os))) refl c.args.options.now c.loop-option.option-index _ _ (omega arith) c.loop-option.invariant
