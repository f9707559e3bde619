use Rattle.std.proofs.Common.{◌≡◌, ◌⊎◌, [], ◌∷◌, ◌++◌, get_or, refl, inl, inr}
use Rattle.std.specs.List.{Contains}
use Rattle.proto_names_affected.specs.declared.kind_rows.KindRow.{KindRow}
use Rattle.proto_names_rules.specs.declared.kind.Kind.TheVariants.{Package}
use Rattle.proto_names_affected.proofs.KindRows.{among_more}
use Rattle.proto_names_affected.proofs.kind_rows.rows_not_among.Goals as goal

abbrev none : KindRow
none = record { row = 0; kind = Package }

pub loop-pair-preserved : goal.loop-pair-preserved
loop-pair-preserved c =
    let p : KindRow = get_or c.args.one.now c.loop-pair.pair-index none in
    let has : (Contains c.args.other.now p × (c.add_missing.new.rows.items ≡ c.loop-pair.rows.items)) ⊎ (c.add_missing.new.rows.items ≡ c.loop-pair.rows.items ++ p.row ∷ []) = (elim c.in_ok-add_missing.ensures [
      | inl a ↦ inl (c.in_ok-kinds.ensures p.row p.kind a.0, a.1)
      | inr e ↦ inr e
    ]) in
    among_more c.args.one.now c.args.other.now c.loop-pair.pair-index none p c.loop-pair-test.true refl c.loop-pair.rows.items c.add_missing.new.rows.items has c.loop-pair.invariant
