use Rattle.std.proofs.Common.{rules}
use Rattle.proto_names_table.proofs.table.Row.passes.Goals as goal

pub returns-then-fits : goal.returns-then-fits
returns-then-fits c = search rules
