use Rattle.std.proofs.Common.{◌≡◌, map, take}
use Rattle.proto_edit_statements.proofs.imports.copies.Given as goal

abbrev pub invariant-loop-own : goal.invariant-loop-own
invariant-loop-own l = map (λ v. v.items) l.copy.items ≡ map (λ v. v.items) (take l.own-index l.imports)
