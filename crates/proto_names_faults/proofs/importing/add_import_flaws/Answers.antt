use Rattle.std.proofs.Common.{◌++◌, ℕ, Option, false, [], get_or, string_bytes, sym, ◌∙◌, ap, is_some}
use Rattle.std.proofs.lemmas.Result.{on_ok_weaker}
use Rattle.indexmap.specs.IndexMap.{get_by_text}
use Rattle.proto_base.proofs.Common.{option_map_or}
use Rattle.proto_names_faults.specs.Common.{flaw_if}
use Rattle.proto_names_faults.proofs.Added.{flaw_added}
use Rattle.proto_names_faults.proofs.ImportTurns.{import_added}
use Rattle.proto_names_faults.proofs.PathFaults.{none_is}
use Rattle.proto_names_faults.proofs.importing.add_import_flaws.Goals as goal

pub returns : goal.returns
returns c = on_ok_weaker c.add_flaw-3.result
    (λ h paths index.
    (let w = c.args.import.now in
    let file = c.args.file in
    let marks = c.args.graph.now.marks.now in
    let path = c.as_str-path.ensures.value in
    let look = c.place_of.ensures ∙ ap (get_by_text c.args.graph.now.index.now) path ∙ index (string_bytes w.path) in
    let test = λ (o : Option ℕ). option_map_or (λ to. get_or (get_or marks to []) file false) o false in
    let cycle = c.leads_to-is_cycle.ensures ∙ ap (λ p. test (get_by_text c.args.graph.now.index.now p)) path ∙ ap test (index (string_bytes w.path)) in
    let one = c.add_flaw.new.found.items in
    let two = c.add_flaw-2.new.found.items in
    let next = c.add_flaw-3.new.found.items in
    let first = c.in_ok-add_flaw.ensures ∙ ap (λ k. c.args.found.now.items ++ flaw_if file w.token k) c.kind_if-unknown.ensures in
    let second = c.in_ok-add_flaw-2.ensures ∙ ap (λ k. one ++ flaw_if file w.token k) c.kind_if-double.ensures in
    let third = h ∙ ap (λ k. two ++ flaw_if file w.token k) c.kind_if-cycle.ensures in
    import_added paths marks file w c.is_none-is_unknown.result c.args.is_double c.leads_to-is_cycle.result (none_is _ _ (ap is_some (sym look) ∙ c.is_none-is_unknown.ensures)) cycle
    c.args.found.now.items one two next (flaw_added c.args.found.now.items one file w.token _ first) (flaw_added one two file w.token _ second) (flaw_added two next file w.token _ third)))
    c.add_flaw-3.ensures
