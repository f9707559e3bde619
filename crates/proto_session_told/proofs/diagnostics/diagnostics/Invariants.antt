use Rattle.std.proofs.Common.{◌≡◌, map, take}
use Rattle.proto_positions.specs.Positions.{IsCursorIn}
use Rattle.proto_session_told.specs.Shown.{diagnostic_in, diagnostic_of, shown_of}
use Rattle.proto_session_told.proofs.diagnostics.diagnostics.Given as goal

abbrev pub invariant-loop-shown : goal.invariant-loop-shown
invariant-loop-shown l = record {
  cursor : IsCursorIn l.encoding l.text l.cursor;
  made : map diagnostic_of l.all.items ≡ map (diagnostic_in l.encoding l.text) (map shown_of (take l.shown-index l.run));
}
