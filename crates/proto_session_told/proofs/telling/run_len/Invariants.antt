use Rattle.std.proofs.Common.{◌≡◌, ◌+◌, drop, map, string_bytes}
use Rattle.std.specs.List.{prefix_len}
use Rattle.proto_session_told.specs.Runs.{is_of_path}
use Rattle.proto_session_told.specs.Shown.{shown_of}
use Rattle.proto_session_told.proofs.telling.run_len.Given as goal

abbrev pub invariant-loop-len : goal.invariant-loop-len
invariant-loop-len l =
    l.len + prefix_len (is_of_path (string_bytes l.first.path)) (map shown_of (drop l.len l.shown)) ≡ prefix_len (is_of_path (string_bytes l.first.path)) (map shown_of l.shown)
