use Rattle.std.proofs.Common.{◌≡◌, ◌++◌, map}
use Rattle.proto_lint_names.specs.Common.{found_in, finding_of, found_of}
use Rattle.proto_lint_names.proofs.finding.add_findings.Given as goal

abbrev pub invariant-loop-offset : goal.invariant-loop-offset
invariant-loop-offset l = map finding_of l.all.items ++ map (found_in l.path) (map found_of l.offset-iterator.rest.items) ≡ map finding_of l.fn.all.items ++ map (found_in l.path) l.fn.found
