use Rattle.std.proofs.Common.{get_or, sym, ◌∙◌, ap}
use Rattle.proto_base.proofs.Common.{both_ways, get_or_default}
use Rattle.proto_names_rules.specs.Linked.{is_package}
use Rattle.proto_names_table.proofs.Naming.{in_front}
use Rattle.proto_names_table.proofs.filling.package_count.Goals as goal

pub returns-else-is_package : goal.returns-else-is_package
returns-else-is_package c =
    in_front c.loop-count.count c.args.spelled.now c.requires c.loop-count.invariant.within c.loop-count.invariant.front
    (λ l s e. both_ways (is_package (get_or c.args.spelled.now c.loop-count.count s).kind)
    (ap (λ z. is_package z.kind) (get_or_default c.args.spelled.now c.loop-count.count s c.index-spelled-count.result l) ∙ sym c.is_package.ensures ∙ c.if-is_package.false)
    (ap is_package e))
