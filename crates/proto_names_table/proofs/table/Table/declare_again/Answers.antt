use Rattle.std.proofs.Common.{true, sym, ◌∙◌, ap, slice_set}
use Rattle.proto_base.proofs.Common.{get_or_default}
use Rattle.proto_names_table.specs.Common.{Row, with_declaration}
use Rattle.proto_names_table.proofs.Kept.{row_revived}
use Rattle.proto_names_table.proofs.table.Table.declare_again.Goals as goal

pub share-requires-clause-declared : goal.share-requires-clause-declared
share-requires-clause-declared c = λ r.
    ap (λ (z : Row). z.is_declared) (get_or_default c.args.self.now.rows.items c.args.row r c.index.result.now c.requires.within ∙ sym c.index.ensures) ∙ c.if-index.true

pub revive-requires-clause-free : goal.revive-requires-clause-free
revive-requires-clause-free c = λ r.
    ap (λ (z : Row). z.is_declared) (get_or_default c.args.self.now.rows.items c.args.row r c.index.result.now c.requires.within ∙ sym c.index.ensures) ∙ c.if-index.false

pub returns-else-index-clause-row : goal.returns-else-index-clause-row
returns-else-index-clause-row c =
    row_revived c.args.self.now c.revive.new.self c.args.row c.index.result.now c.args.symbol c.requires.within c.index.ensures
    (c.revive.ensures.rows c.index.result.now ∙ ap (λ z. slice_set c.args.self.now.rows.items c.args.row (with_declaration c.args.symbol true z)) (sym c.index.ensures))
    c.revive.ensures.below c.if-index.false
