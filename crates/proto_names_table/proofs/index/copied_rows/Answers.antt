use Rattle.std.proofs.Common.{get_or, sym, ◌∙◌, subst, take_all}
use Rattle.proto_base.proofs.Common.{get_or_default}
use Rattle.proto_names_table.specs.declared.index.Below.{Below}
use Rattle.std.specs.List.{IsDistinct}
use Rattle.proto_names_table.proofs.Copied.{row_copied, same_below}
use Rattle.proto_names_table.proofs.index.copied_rows.Goals as goal

pub loop-row-init : goal.loop-row-init
loop-row-init c = c.in_ok-copy.ensures.empty

pub loop-row-preserved : goal.loop-row-preserved
loop-row-preserved c =
    let none : Below = record { above = 0; word = 0 } in
    let given = c.as_slice-given.result.now in
    let own = get_or given c.loop-row.row-index none in
    c.in_ok-insert.ensures.keys
    ∙ row_copied given c.loop-row.copy.keys c.loop-row.row-index own (subst (IsDistinct same_below) (sym c.as_slice-given.ensures.keys) c.as_slice-given.ensures.unique) c.loop-row.invariant c.loop-row-test.true
    (get_or_default given c.loop-row.row-index none own c.loop-row-test.true)

pub returns : goal.returns
returns c = c.loop-row.invariant ∙ take_all c.loop-row.row-index c.as_slice-given.result.now c.loop-row-test.false ∙ c.as_slice-given.ensures.keys
