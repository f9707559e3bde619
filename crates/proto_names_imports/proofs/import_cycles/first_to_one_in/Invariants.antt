use Rattle.std.proofs.Common.{◌≡◌, ℕ, ◌<◌, false, get_or, string_bytes}
use Rattle.std.specs.Option.{option_map_or}
use Rattle.indexmap.specs.IndexMap.{get_by_text}
use Rattle.proto_names_imports.specs.declared.import.WrittenImport.{WrittenImport}
use Rattle.proto_names_imports.proofs.import_cycles.first_to_one_in.Given as goal

abbrev pub invariant-loop-import : goal.invariant-loop-import
invariant-loop-import l = (k : ℕ) (d : WrittenImport) → k < l.import-index → option_map_or (λ to. get_or l.set to false) (get_by_text l.index (string_bytes (get_or l.written k d).path)) false ≡ false
