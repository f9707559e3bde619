use Rattle.std.proofs.Common.{◌≡◌, map, drop}
use Rattle.std.specs.List.{list_any}
use Rattle.serde_json.specs.View.{view}
use Rattle.proto_messages.specs.Reading.{has_range}
use Rattle.proto_messages.proofs.notifications.have_range.Given as goal

abbrev pub invariant-loop-change : goal.invariant-loop-change
invariant-loop-change l = list_any has_range (map view l.changes) ≡ list_any has_range (map view (drop l.change-index l.changes))
