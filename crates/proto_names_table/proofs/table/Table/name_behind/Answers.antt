use Rattle.std.proofs.Common.{◌≡◌, IfSome, subst}
use Rattle.proto_names_rules.specs.Forest.{under}
use Rattle.proto_names_table.proofs.Tables.{front_at}
use Rattle.proto_names_table.proofs.table.Table.name_behind.Goals as goal

pub returns-else-above-eq0 : goal.returns-else-above-eq0
returns-else-above-eq0 c =
    subst (λ z. IfSome c.below.result (λ name. name ≡ under z c.args.word.now))
    (front_at c.args.self.now c.args.above c.index.result.now c.if-above-eq0.false c.requires c.index.ensures) c.below.ensures
