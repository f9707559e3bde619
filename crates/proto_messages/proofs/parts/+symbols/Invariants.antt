use Rattle.std.proofs.Common.{◌≡◌, map, take}
use Rattle.serde_json.specs.View.{view}
use Rattle.proto_messages.specs.Results.{symbol_data}
use Rattle.proto_messages.proofs.parts.+symbols.Given as goal

abbrev pub invariant-symbols-loop-symbol : goal.invariant-symbols-loop-symbol
invariant-symbols-loop-symbol l = map view l.values.items ≡ map symbol_data (take l.symbol-index l.symbols)
