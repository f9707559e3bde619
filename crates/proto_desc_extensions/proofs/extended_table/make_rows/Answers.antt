use Rattle.proto_desc_extensions.proofs.ExtendedRows.{rows_put, rows_there}
use Rattle.proto_desc_extensions.proofs.extended_table.make_rows.Goals as goal

pub returns-in_ok-insert-clause-rows : goal.returns-in_ok-insert-clause-rows
returns-in_ok-insert-clause-rows c = rows_put c.args.linked.now.files c.args.file c.args.rows.now c.insert.new.self c.in_ok-own.own c.in_ok-insert.ensures.updates.0 c.in_ok-own.ensures c.requires.rows

pub returns-in_ok-insert-clause-there : goal.returns-in_ok-insert-clause-there
returns-in_ok-insert-clause-there c = rows_there c.args.linked.now.files c.args.file c.args.rows.now c.insert.new.self c.in_ok-own.own c.in_ok-insert.ensures.updates.0
