use Rattle.std.proofs.Common.{◌≡◌, get_or, nat_eq, Some, None, refl, sym, ◌∙◌, ap}
use Rattle.std.specs.Map.{lookup}
use Rattle.indexmap.specs.IndexMap.{get}
use Rattle.proto_names_rules.specs.declared.kind.Kind.TheVariants.{Package}
use Rattle.proto_names_affected.specs.declared.kind_rows.KindRow.{KindRow}
use Rattle.proto_names_affected.proofs.KindRows.{kinds_more}
use Rattle.proto_names_affected.proofs.kind_rows.kinds_by_row.Goals as goal

abbrev none : KindRow
none = record { row = 0; kind = Package }

pub loop-pair-init : goal.loop-pair-init
loop-pair-init c = λ row kind h. (
    let none : None ≡ Some kind = sym (ap (lookup (nat_eq row)) c.new-kinds.ensures.empty) ∙ h in
    absurd (cc))

pub loop-pair-preserved : goal.loop-pair-preserved
loop-pair-preserved c =
    let p : KindRow = get_or c.args.pairs.now c.loop-pair.pair-index none in
    kinds_more c.args.pairs.now c.loop-pair.pair-index none p c.loop-pair-test.true refl (get nat_eq c.loop-pair.kinds) (get nat_eq c.insert.new.self) c.in_ok-insert.ensures.updates.0 c.loop-pair.invariant
