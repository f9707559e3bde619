use Rattle.std.proofs.Common.{◌≡◌, [], false, sym, ◌∙◌, ap, refl, slice_set}
use Rattle.proto_base.proofs.Common.{false_from_ne_true, get_or_default}
use Rattle.proto_names_rules.proofs.Common.{package_from}
use Rattle.proto_names_table.specs.declared.table.Row.{Row}
use Rattle.proto_names_table.specs.Tables.{with_declaration}
use Rattle.proto_names_table.proofs.Forgotten.{index_forgot}
use Rattle.proto_names_table.proofs.IndexAdded.{second_false}
use Rattle.proto_names_table.proofs.OneRow.{table_same}
use Rattle.proto_names_table.proofs.table.Table.forget.Goals as goal

abbrev own : goal.After-put_back → Row
own c = c.index.result.now

rows : (c : goal.After-put_back) → c.put_back.new.self.rows.items ≡ slice_set c.args.self.now.rows.items c.args.row (with_declaration (own c).symbol false (own c))
rows c = c.put_back.ensures.rows (own c) ∙ ap (λ z. slice_set c.args.self.now.rows.items c.args.row (with_declaration (own c).symbol false z)) (sym c.index.ensures)

alone : (c : goal.After-put_back) → (own c).more.items ≡ []
alone c =
    ap (λ (z : Row). z.more.items) c.index.ensures
    ∙ c.requires.table.alone c.args.row (own c) c.requires.within
    (second_false _ _ (false_from_ne_true _ (λ h. c.requires.other (own c) (package_from _ h))))

pub returns-clause-table : goal.returns-clause-table
returns-clause-table c =
    table_same c.args.self.now c.put_back.new.self c.args.row (own c) (with_declaration (own c).symbol false (own c)) c.requires.within c.index.ensures (rows c) c.put_back.ensures.below refl refl (λ _. alone c) c.requires.table

pub returns-clause-was : goal.returns-clause-was
returns-clause-was c = λ d. ap (λ (z : Row). z.symbol) (c.index.ensures ∙ get_or_default c.args.self.now.rows.items c.args.row c.index.result.now d c.requires.within)

pub returns-clause-index : goal.returns-clause-index
returns-clause-index c = λ old rest index without.
    index_forgot c.args.self.now c.put_back.new.self c.args.row (own c) (own c).symbol false c.requires.within c.index.ensures (rows c) c.put_back.ensures.below c.requires.table refl old rest index without
