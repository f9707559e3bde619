use Rattle.std.proofs.Common.{◌≡◌, map, drop}
use Rattle.std.specs.List.{list_any}
use Rattle.serde_json.specs.View.{view}
use Rattle.proto_messages.specs.Reading.{names_utf8}
use Rattle.proto_messages.proofs.requests.has_utf8.Given as goal

abbrev pub invariant-loop-name : goal.invariant-loop-name
invariant-loop-name l = list_any names_utf8 (map view l.names) ≡ list_any names_utf8 (map view (drop l.name-index l.names))
