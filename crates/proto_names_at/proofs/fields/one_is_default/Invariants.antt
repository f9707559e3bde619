use Rattle.std.proofs.Common.{◌≡◌, map, drop}
use Rattle.std.specs.List.{list_any}
use Rattle.proto_ast.specs.Scenes.{text}
use Rattle.proto_ast.specs.Views.{option_of}
use Rattle.proto_names_at.specs.Defaults.{is_default}
use Rattle.proto_names_at.proofs.fields.one_is_default.Given as goal

abbrev pub invariant-loop-option : goal.invariant-loop-option
invariant-loop-option l = list_any (is_default (text l.scene) l.token) (map option_of l.options) ≡ list_any (is_default (text l.scene) l.token) (map option_of (drop l.option-index l.options))
