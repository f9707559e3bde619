use Rattle.std.proofs.Common.{◌≡◌, ◌++◌, drop, not, filter}
use Rattle.proto_names_affected.specs.Merged.{is_of_marked_file, merged}
use Rattle.proto_names_affected.proofs.backlinks.renewed.Given as goal

abbrev pub invariant-loop-reference : goal.invariant-loop-reference
invariant-loop-reference l = l.found.items ++ merged (filter (λ r. not (is_of_marked_file l.marks r)) (drop l.reference-index l.old)) l.rest
    ≡ merged (filter (λ r. not (is_of_marked_file l.marks r)) l.old) l.fresh
