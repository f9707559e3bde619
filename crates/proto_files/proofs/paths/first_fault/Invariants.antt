use Rattle.std.proofs.Common.{◌≡◌, ◌+◌, length}
use Rattle.proto_files.specs.Common.{named_paths, first_fault}
use Rattle.proto_files.proofs.paths.first_fault.Given as goal

abbrev pub invariant-loop-file : goal.invariant-loop-file
invariant-loop-file l =
    (l.place + length l.left ≡ length l.files)
    × (first_fault l.place l.limit (named_paths l.left) ≡ first_fault 0 l.limit (named_paths l.files))

abbrev pub decreases-loop-file : goal.decreases-loop-file
decreases-loop-file l = length l.left
