use Rattle.std.proofs.Common.{ap, ◌∙◌}
use Rattle.proto_names_rules.specs.Grown.{at}
use Rattle.proto_desc_extensions.specs.Common.{told_text}
use Rattle.proto_desc_extensions.proofs.ExtendedRows.{rows_told}
use Rattle.proto_desc_extensions.proofs.extended_table.extended_at.Goals as goal

pub returns-clause-extended : goal.returns-clause-extended
returns-clause-extended c = λ reads are.
    ap told_text c.row_at.ensures
    ∙ rows_told c.args.linked.now.files c.make_rows.new.rows c.in_ok-make_rows.ensures.rows (at c.args.place.file c.args.place.token) c.in_ok-make_rows.ensures.there reads are
