use Rattle.std.proofs.Common.{◌≡◌, ◌++◌, length}
use Rattle.proto_names_affected.specs.Merged.{references_before, references_from}
use Rattle.proto_names_affected.proofs.backlinks.put_before.Given as goal

abbrev pub invariant-loop-first : goal.invariant-loop-first
invariant-loop-first l = record {
  found : l.found.items ++ references_before l.file l.rest ≡ l.initial.found.items ++ references_before l.file l.fresh;
  rest : references_from l.file l.rest ≡ references_from l.file l.fresh;
}

abbrev pub decreases-loop-first : goal.decreases-loop-first
decreases-loop-first l = length l.rest
