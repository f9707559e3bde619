use Rattle.std.proofs.Common.{◌≡◌, drop, map}
use Rattle.proto_session_told.specs.Telling.{told_of, was_told}
use Rattle.proto_session_told.proofs.telling.place_told.Given as goal

abbrev pub invariant-loop-place : goal.invariant-loop-place
invariant-loop-place l =
    was_told (map told_of l.told) (told_of l.new) ≡ was_told (map told_of (drop l.place l.told)) (told_of l.new)
