use Rattle.std.proofs.Common.{map, take}
use Rattle.proto_names_affected.specs.Gathering.{Gathers, marked_meant}
use Rattle.proto_names_affected.proofs.gathering.Gathered.add_marked.Given as goal

abbrev pub invariant-loop-file : goal.invariant-loop-file
invariant-loop-file l = Gathers l.initial.self l.self (marked_meant l.marks 0 (take l.file (map (λ v. v.items) l.meant)))
