use Rattle.std.proofs.Common.{◌≡◌, drop, map}
use Rattle.std.specs.List.{find}
use Rattle.proto_session_files.specs.Views.{is_at, open_of}
use Rattle.proto_session_files.proofs.places.open_at.Given as goal

abbrev pub invariant-loop-open : goal.invariant-loop-open
invariant-loop-open l =
    find (is_at l.path) (map open_of l.opened) ≡ find (is_at l.path) (map open_of (drop l.open-index l.opened))
