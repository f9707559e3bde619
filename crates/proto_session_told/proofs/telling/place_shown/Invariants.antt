use Rattle.std.proofs.Common.{◌≡◌, drop, map}
use Rattle.proto_session_told.specs.Telling.{is_shown_at, told_of}
use Rattle.proto_session_told.proofs.telling.place_shown.Given as goal

abbrev pub invariant-loop-place : goal.invariant-loop-place
invariant-loop-place l =
    is_shown_at (map told_of l.told) l.uri ≡ is_shown_at (map told_of (drop l.place l.told)) l.uri
