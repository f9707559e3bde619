use Rattle.std.proofs.Common.{◌≡◌, map, drop, find}
use Rattle.proto_ast.specs.Common.{is_named, text, option_of}
use Rattle.proto_ast.proofs.option_values.option_named.Given as goal

abbrev pub invariant-loop-option : goal.invariant-loop-option
invariant-loop-option l = find (is_named (text l.scene) l.name) (map option_of l.options) ≡ find (is_named (text l.scene) l.name) (map option_of (drop l.option-index l.options))
