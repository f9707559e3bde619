use Rattle.std.proofs.Common.{◌≡◌, map, take}
use Rattle.proto_session_files.specs.Views.{closed, open_of}
use Rattle.proto_session_files.proofs.seeing.closed.Given as goal

abbrev pub invariant-loop-open : goal.invariant-loop-open
invariant-loop-open l =
    map open_of l.left.items ≡ closed l.path (map open_of (take l.open-index l.opened))
