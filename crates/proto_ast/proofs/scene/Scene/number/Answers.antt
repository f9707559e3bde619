use Rattle.std.proofs.Common.{◌≤◌, pos, ap, ◌∙◌, arith, min}
use Rattle.proto_base.proofs.Common.{w128, to_z_pos}
use Rattle.proto_ast.specs.Numbers.{past, number_value}
use Rattle.proto_ast.specs.Scenes.{Scene, number_at}
use Rattle.proto_ast.proofs.Digits.{min_bound}
use Rattle.proto_ast.proofs.scene.Scene.number.Goals as goal

pub returns : goal.returns
returns c =
    let low : c.number_of.result ≤ past = min_bound _ _ _ c.number_of.ensures in
    to_z_pos w128 c.number_of.result (omega (arith, low)) ∙ ap pos c.number_of.ensures ∙ ap (λ w. pos (min past (number_value w))) c.get.ensures ∙ ap (λ (s : Scene). number_at s c.args.token) c.self.view_is
