use Rattle.std.proofs.Common.{◌∙◌, ap, slice_set}
use Rattle.proto_base.proofs.Common.{get_or_default}
use Rattle.proto_names_table.specs.Tables.{with_declaration}
use Rattle.proto_names_table.proofs.table.Table.put_back.Goals as goal

pub returns-clause-rows : goal.returns-clause-rows
returns-clause-rows c = λ d.
    ap (λ r. slice_set c.args.self.now.rows.items c.args.row (with_declaration c.args.symbol c.args.is_declared r))
    (c.index_mut-own.ensures.value ∙ get_or_default c.args.self.now.rows.items c.args.row c.index_mut-own.result.now d c.requires.within)
