use Rattle.std.proofs.Common.{◌≡◌, drop, map}
use Rattle.proto_session_files.specs.Views.{is_open, open_of}
use Rattle.proto_session_files.proofs.seeing.is_open.Given as goal

abbrev pub invariant-loop-open : goal.invariant-loop-open
invariant-loop-open l =
    is_open l.path (map open_of l.opened) ≡ is_open l.path (map open_of (drop l.open-index l.opened))
