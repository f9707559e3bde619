use Rattle.std.proofs.Common.{map, None, ◌∙◌, ap}
use Rattle.proto_names_table.specs.Tables.{row_of}
use Rattle.proto_names_table.proofs.Alike.{table_alike}
use Rattle.proto_names_table.proofs.table.Table.copy.Goals as goal

pub returns-clause-alike : goal.returns-clause-alike
returns-clause-alike c = record { rows = c.in_ok-rows.ensures ∙ ap (map row_of) c.deref.ensures.value; below = c.in_ok-below.ensures }

pub returns-clause-table : goal.returns-clause-table
returns-clause-table c = table_alike c.args.self.now (record { rows = c.in_ok-rows.rows; below = c.in_ok-below.below; begun = None }) (record { rows = c.in_ok-rows.ensures ∙ ap (map row_of) c.deref.ensures.value; below = c.in_ok-below.ensures })
