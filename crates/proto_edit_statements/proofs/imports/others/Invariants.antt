use Rattle.std.proofs.Common.{◌≡◌, ◌==◌, filter, not, take}
use Rattle.proto_edit_statements.proofs.imports.others.Given as goal

abbrev pub invariant-loop-import : goal.invariant-loop-import
invariant-loop-import l = l.left.items ≡ filter (λ i. not (i.to == l.to)) (take l.import-index l.own)
