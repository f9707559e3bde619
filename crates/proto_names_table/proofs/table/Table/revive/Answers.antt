use Rattle.std.proofs.Common.{◌≡◌, [], false, true, sym, ◌∙◌, ap, refl, slice_set}
use Rattle.proto_base.proofs.Common.{get_or_default}
use Rattle.proto_names_table.specs.declared.table.Row.{Row}
use Rattle.proto_names_table.specs.Tables.{with_declaration}
use Rattle.proto_names_table.specs.Undone.{free_row}
use Rattle.proto_names_table.proofs.Forgotten.{declared_revived}
use Rattle.proto_names_table.proofs.IndexAdded.{first_false}
use Rattle.proto_names_table.proofs.OneRow.{table_same}
use Rattle.proto_names_table.proofs.table.Table.revive.Goals as goal

abbrev own : goal.After-put_back → Row
own c = c.index.result.now

rows : (c : goal.After-put_back) → c.put_back.new.self.rows.items ≡ slice_set c.args.self.now.rows.items c.args.row (with_declaration c.args.symbol true (own c))
rows c = c.put_back.ensures.rows (own c) ∙ ap (λ z. slice_set c.args.self.now.rows.items c.args.row (with_declaration c.args.symbol true z)) (sym c.index.ensures)

dead : (c : goal.After-put_back) → (own c).is_declared ≡ false
dead c = ap (λ (z : Row). z.is_declared) c.index.ensures ∙ c.requires.free (own c)

alone : (c : goal.After-put_back) → (own c).more.items ≡ []
alone c =
    ap (λ (z : Row). z.more.items) c.index.ensures
    ∙ c.requires.table.alone c.args.row (own c) c.requires.within (first_false _ _ (c.requires.free (own c)))

pub returns-clause-table : goal.returns-clause-table
returns-clause-table c =
    table_same c.args.self.now c.put_back.new.self c.args.row (own c) (with_declaration c.args.symbol true (own c)) c.requires.within c.index.ensures (rows c) c.put_back.ensures.below refl refl (λ _. alone c) c.requires.table

pub returns-clause-was : goal.returns-clause-was
returns-clause-was c = λ d. ap (λ (z : Row). z.symbol) (c.index.ensures ∙ get_or_default c.args.self.now.rows.items c.args.row c.index.result.now d c.requires.within)

pub returns-clause-change : goal.returns-clause-change
returns-clause-change c = free_row c.requires.within c.requires.free c.put_back.ensures.rows c.put_back.ensures.below

pub returns-clause-index : goal.returns-clause-index
returns-clause-index c =
    declared_revived c.args.self.now c.put_back.new.self c.args.row (own c) c.args.symbol true c.requires.within c.index.ensures (rows c) c.put_back.ensures.below c.requires.table (dead c) refl (alone c)
