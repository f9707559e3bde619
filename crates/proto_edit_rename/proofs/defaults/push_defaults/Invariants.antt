use Rattle.std.proofs.Common.{◌≡◌, [], ◌++◌, map, drop, codes, flat_map, if◌then◌else◌}
use Rattle.proto_ast.proofs.Common.{is_named, text, option_of}
use Rattle.proto_edit_rename_laws.specs.Renamed.{constant_tokens}
use Rattle.proto_edit_rename.specs.Defaults.{spelled}
use Rattle.proto_edit_rename.proofs.defaults.push_defaults.Given as goal

abbrev pub invariant-loop-option : goal.invariant-loop-option
invariant-loop-option l =
    l.found.items ++ spelled (text l.scene) l.old (flat_map (λ o. if is_named (text l.scene) (codes "default") o then constant_tokens o.value else []) (map option_of (drop l.option-index l.options)))
    ≡ l.initial.found.items ++ spelled (text l.scene) l.old (flat_map (λ o. if is_named (text l.scene) (codes "default") o then constant_tokens o.value else []) (map option_of l.options))
