use Rattle.std.proofs.Common.{◌∙◌, ◌≢◌}
use Rattle.proto_names_table.proofs.Tables.{front_at}
use Rattle.proto_names_table.proofs.table.Table.text.Goals as goal

pub returns-else-number-eq0 : goal.returns-else-number-eq0
returns-else-number-eq0 c =
    let ne : c.args.number ≢ 0 = c.if-number-eq0.false in
    c.as_str.ensures ∙ front_at c.args.self.now c.args.number c.index.result.now ne c.requires c.index.ensures
