use Rattle.std.proofs.Common.{List, Some, slice_get, option_and_then, option_map, sym, ◌∙◌, ap}
use Rattle.proto_base.proofs.Common.{slice_get-get_or}
use Rattle.proto_names_table.specs.declared.table.Row.{Row}
use Rattle.proto_names_faults.specs.Common.{kind_in}
use Rattle.proto_names_faults.proofs.resolving.kind_at_row.Goals as goal

pub returns : goal.returns
returns c =
    let look = c.in_ok-found.ensures.lookup in
    let found = c.in_ok-found.found.now in
    let there = ap (λ (rs : List Row). slice_get rs c.in_ok-row.row) (sym c.deref.ensures.value) ∙ slice_get-get_or c.deref.result.now c.in_ok-row.row found look.3.0 ∙ ap (λ (r : Row). Some r) (sym look.1) in
    sym (ap (option_and_then (kind_in c.args.table.now)) c.in_ok-row.was ∙ ap (option_map (λ (r : Row). r.symbol.kind)) there)
