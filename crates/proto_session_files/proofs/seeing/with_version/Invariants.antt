use Rattle.std.proofs.Common.{◌≡◌, map, take}
use Rattle.proto_session_files.specs.Views.{open_of, with_version}
use Rattle.proto_session_files.proofs.seeing.with_version.Given as goal

abbrev pub invariant-loop-open : goal.invariant-loop-open
invariant-loop-open l =
    map open_of l.all.items ≡ with_version l.path l.version (map open_of (take l.open-index l.opened))
