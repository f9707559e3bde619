use Rattle.std.proofs.Common.{[], ◌∷◌, ◌++◌, map, take, sym, ◌∙◌, ap, take_all}
use Rattle.proto_base.proofs.Common.{map-append, map_more}
use Rattle.proto_names_table.specs.Tables.{row_of}
use Rattle.proto_names_table.proofs.table.copied_rows.Goals as goal

pub loop-row-preserved : goal.loop-row-preserved
loop-row-preserved c =
    ap (map row_of) c.in_ok-push.ensures.items
    ∙ map-append row_of c.loop-row.copy.items (c.in_ok-own.own ∷ [])
    ∙ ap (λ z. z ++ row_of c.in_ok-own.own ∷ []) c.loop-row.invariant
    ∙ ap (λ z. map row_of (take c.loop-row.row-index c.args.rows.now) ++ z ∷ []) (c.in_ok-own.ensures ∙ ap row_of c.row-item.is)
    ∙ sym (map_more row_of c.args.rows.now c.loop-row.row-index c.row-item.result c.loop-row-test.true)

pub returns : goal.returns
returns c = c.loop-row.invariant ∙ ap (map row_of) (take_all c.loop-row.row-index c.args.rows.now c.loop-row-test.false)
