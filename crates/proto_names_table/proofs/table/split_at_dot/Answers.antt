use Rattle.std.proofs.Common.{lit<}
use Rattle.std.proofs.lemmas.Str.Pattern.{split_parts}
use Rattle.proto_names_table.proofs.Tables.{cut_is}
use Rattle.proto_names_table.proofs.table.split_at_dot.Goals as goal

pub returns-clause-cases : goal.returns-clause-cases
returns-clause-cases c = cut_is c.args.text.now c.split_once.result (split_parts 46 c.args.text.now c.split_once.result c.split_once.ensures.cases (lit< tt))
