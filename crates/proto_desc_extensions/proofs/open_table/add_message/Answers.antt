use Rattle.std.proofs.Common.{arith}
use Rattle.proto_desc_extensions.proofs.OpenRows.{row_added}
use Rattle.proto_desc_extensions.proofs.open_table.add_message.Goals as goal

pub returns-in_ok-insert : goal.returns-in_ok-insert
returns-in_ok-insert c = λ blocks h.
    row_added c.args.scene.now blocks c.args.message.now c.args.rows.now c.insert.new.self c.in_ok-row.row (grind (arith, c.contains_key.ensures, c.if-not-contains_key.true)) c.in_ok-insert.ensures.updates.0 c.in_ok-row.ensures h
