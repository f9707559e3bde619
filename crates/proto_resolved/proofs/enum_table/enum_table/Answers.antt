use Rattle.std.proofs.Common.{replicate, true, ap, ◌∙◌}
use Rattle.proto_base.proofs.Common.{IfOk-weaker}
use Rattle.proto_resolved.specs.Common.{IsEnumTable, IsEnumTableOf}
use Rattle.proto_resolved.proofs.EnumTables.{all_marked}
use Rattle.proto_resolved.proofs.enum_table.enum_table.Goals as goal

pub returns : goal.returns
returns c =
    let files = c.args.files.now in
    let marks = c.in_ok-all.all in
    IfOk-weaker c.enum_table_of.result (IsEnumTableOf files marks) (IsEnumTable files)
    (λ table. all_marked files marks table (c.in_ok-all.ensures ∙ ap (λ n. replicate n true) c.len.ensures.len)) c.enum_table_of.ensures
