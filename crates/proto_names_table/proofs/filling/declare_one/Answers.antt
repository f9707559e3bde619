use Rattle.std.proofs.Common.{◌≡◌, ap, sym, ◌∙◌, subst, IfSome}
use Rattle.std.specs.Cow.{cow_str_bytes}
use Rattle.proto_names_rules.specs.Forest.{under, front}
use Rattle.proto_names_table.specs.Common.{names_of, SymbolIsDeclared, IsRowOf, declaration_of, number_above}
use Rattle.proto_names_table.proofs.filling.declare_one.Goals.{in-Outermost, in-Below, After-as_str}
use Rattle.proto_names_table.proofs.filling.declare_one.Goals as goal

-- the name that is declared
text_is : (c : After-as_str) → under (front (names_of c.args.table.now) c.match-spelled.above) c.as_str.result.now ≡ under (front (names_of c.args.table.now) (number_above c.args.rows.now c.args.spelled.now.above)) (cow_str_bytes c.args.spelled.now.word)
text_is c =
    ap (λ n. under (front (names_of c.args.table.now) n) c.as_str.result.now) (elim c.match-spelled.branch [
      | in-Outermost w ↦ w.above-is ∙ ap (number_above c.args.rows.now) (sym w.in-Outermost.is)
      | in-Below w ↦ w.above-is ∙ ap (number_above c.args.rows.now) (sym w.in-Below.is)
    ])
    ∙ ap (under (front (names_of c.args.table.now) (number_above c.args.rows.now c.args.spelled.now.above))) c.as_str.ensures.value

pub returns-in-Some : goal.returns-in-Some
returns-in-Some c =
    let at = (goal.at.returns-in-Some c).After-as_str in
    let symbol = declaration_of c.args.file c.args.spelled.now in
    let was = under (front (names_of c.args.table.now) c.match-spelled.above) c.as_str.result.now in
    record {
      table = c.in_ok-row.ensures.table;
      row = subst (λ z. IsRowOf c.args.table.now c.declare.new.self z symbol c.in-Some.row) (text_is at) (subst (λ o. IfSome o (IsRowOf c.args.table.now c.declare.new.self was symbol)) c.in-Some.is c.in_ok-row.ensures.row);
      index = subst (λ z. SymbolIsDeclared c.args.table.now c.declare.new.self z symbol) (text_is at) (subst (λ o. IfSome o (λ _. SymbolIsDeclared c.args.table.now c.declare.new.self was symbol)) c.in-Some.is c.in_ok-row.ensures.index);
      clash = tt;
    }
