use Rattle.std.proofs.Common.{◌≡◌, [], ◌∷◌, ◌++◌, refl, ◌∙◌, ap, if◌then◌else◌, is_ok, true}
use Rattle.proto_names_table.specs.declared.table.Row.{Row}
use Rattle.proto_names_table.specs.Undone.{new_row}
use Rattle.proto_names_table.proofs.Tables.{table_added}
use Rattle.proto_names_table.proofs.table.Table.add.Goals as goal

abbrev row : goal.After-unwrap → Row
row c = record { name = c.in_ok-name.name; symbol = c.args.symbol; above = c.args.above; more = c.new.result; is_declared = true }

rows : (c : goal.After-unwrap) → c.push.new.self.items ≡ c.args.self.now.rows.items ++ row c ∷ []
rows c =
    c.push.ensures.items ∙ ap (λ r. if is_ok r then c.reserve.new.self.items ++ row c ∷ [] else c.reserve.new.self.items) c.unwrap.ensures
    ∙ ap (λ z. z ++ row c ∷ []) c.in_ok-reserve.ensures.items

pub returns-clause-table : goal.returns-clause-table
returns-clause-table c =
    table_added c.args.self.now (record { rows = c.push.new.self; below = c.add.new.self; begun = c.args.self.now.begun }) c.args.above c.args.word.now (row c) c.requires.table c.requires.within c.requires.plain c.requires.new
    (rows c) c.in_ok-name.ensures refl
    c.in_ok-add.ensures.look c.in_ok-add.ensures.aboves c.in_ok-add.ensures.len c.add.ensures.words c.new.ensures.items

pub returns-clause-rows : goal.returns-clause-rows
returns-clause-rows c = (
  c.len-index.ensures ∙ c.args.self.now.rows.ok.0,
  (row c, rows c, c.in_ok-name.ensures, refl, c.new.ensures.items, refl),
)

pub returns-clause-front : goal.returns-clause-front
returns-clause-front c = c.in_ok-add.ensures.front

pub returns-clause-change : goal.returns-clause-change
returns-clause-change c = new_row (row c) (c.len-index.ensures ∙ c.args.self.now.rows.ok.0) (rows c) refl c.new.ensures.items refl c.in_ok-add.ensures.front
