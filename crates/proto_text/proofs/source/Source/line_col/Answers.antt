use Rattle.std.proofs.Common.{rules}
use Rattle.proto_text.proofs.source.Source.line_col.Goals as goal

pub returns-clause-line : goal.returns-clause-line
returns-clause-line c = search rules

pub returns-clause-column : goal.returns-clause-column
returns-clause-column c = search rules
