use Rattle.std.proofs.Common.{ap, ◌∙◌, option_map, string_bytes}
use Rattle.proto_ast.specs.Scenes.{Scene, value}
use Rattle.proto_ast.proofs.Strings.{no_value_found, value_found}
use Rattle.proto_ast.proofs.scene.Scene.string.Goals as goal

pub returns-in-Some : goal.returns-in-Some
returns-in-Some c =
    value_found c.self.inside.words c.args.token (option_map string_bytes c.in_ok-value.value) (string_bytes c.in-Some.found) c.in_ok-value.ensures (ap (option_map string_bytes) c.in-Some.is)
    ∙ ap (λ (s : Scene). value s c.args.token) c.self.view_is

pub returns-in-None : goal.returns-in-None
returns-in-None c =
    c.new.ensures.bytes
    ∙ no_value_found c.self.inside.words c.args.token (option_map string_bytes c.in_ok-value.value) c.in_ok-value.ensures (ap (option_map string_bytes) c.in-None.is)
    ∙ ap (λ (s : Scene). value s c.args.token) c.self.view_is
