use Rattle.std.proofs.Common.{arith}
use Rattle.proto_desc_extensions.proofs.ExtendedRows.{row_added}
use Rattle.proto_desc_extensions.proofs.extended_table.add_row.Goals as goal

pub returns-in_ok-insert : goal.returns-in_ok-insert
returns-in_ok-insert c = λ es h.
    row_added es c.args.token c.args.rows.now c.insert.new.self c.args.extended (grind (arith, c.contains_key.ensures, c.if-not-contains_key.true)) c.in_ok-insert.ensures.updates.0 h
