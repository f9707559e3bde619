use Rattle.std.proofs.Common.{◌≡◌, true, false, get_or, string_bytes, sym, ◌∙◌, ap, subst}
use Rattle.std.specs.Option.{option_map_or}
use Rattle.indexmap.specs.IndexMap.{get_by_text}
use Rattle.proto_names_rules.proofs.Common.{fault, IsLeast, at}
use Rattle.proto_names_imports.specs.ImportSteps.{MarkedFault}
use Rattle.proto_names_imports.proofs.CycleFaults.{marked_least}
use Rattle.proto_names_imports.proofs.import_cycles.first_to_one_in.Goals as goal

pub returns-then-names_one_in : goal.returns-then-names_one_in
returns-then-names_one_in c = λ paths index. (
    let named : option_map_or (λ to. get_or c.args.set.now to false) (get_by_text c.args.index.now (string_bytes (get_or c.args.written.now c.loop-import.import-index c.import-item.result).path)) false ≡ true =
    ap (λ w. option_map_or (λ to. get_or c.args.set.now to false) (get_by_text c.args.index.now (string_bytes w.path)) false) (sym c.import-item.is)
    ∙ ap (λ p. option_map_or (λ to. get_or c.args.set.now to false) (get_by_text c.args.index.now p) false) (sym c.as_str.ensures.value)
    ∙ sym c.names_one_in.ensures ∙ c.if-names_one_in.true in
    subst (λ w. IsLeast (MarkedFault paths c.args.set.now c.args.file c.args.written.now) (fault (at c.args.file w.token) 12)) (sym c.import-item.is)
    (marked_least (λ w. get_by_text c.args.index.now (string_bytes w.path)) paths c.args.set.now c.args.file c.args.written.now c.loop-import.import-index c.import-item.result (λ w. index (string_bytes w.path)) c.requires c.loop-import-test.true c.loop-import.invariant named))
