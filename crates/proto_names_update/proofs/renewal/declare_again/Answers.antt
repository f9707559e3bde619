use Rattle.std.proofs.Common.{◌≡◌, ap, sym, ◌∙◌, subst, IfOk, IfSome}
use Rattle.std.specs.Cow.{cow_str_bytes}
use Rattle.proto_names_rules.proofs.Common.{front, package_from, under}
use Rattle.proto_names_table.specs.Common.{IsRowOf, SymbolIsDeclared, declaration_of, names_of, number_above}
use Rattle.proto_names_update.specs.Renewal.{IsPackageOf}
use Rattle.proto_names_update.proofs.Renewing.{package_rows, packages_declared}
use Rattle.proto_names_update.proofs.renewal.declare_again.Goals.{in-Outermost, in-Below, After-as_str-word}
use Rattle.proto_names_update.proofs.renewal.declare_again.Goals as goal

-- the name that is declared
text_is : (c : After-as_str-word) → under (front (names_of c.args.table.now) c.match-spelled.above) c.as_str-word.result.now ≡ under (front (names_of c.args.table.now) (number_above c.args.rows.now c.args.spelled.now.above)) (cow_str_bytes c.args.spelled.now.word)
text_is c =
    ap (λ n. under (front (names_of c.args.table.now) n) c.as_str-word.result.now) (elim c.match-spelled.branch [
      | in-Outermost w ↦ w.above-is ∙ ap (number_above c.args.rows.now) (sym w.in-Outermost.is)
      | in-Below w ↦ w.above-is ∙ ap (number_above c.args.rows.now) (sym w.in-Below.is)
    ])
    ∙ ap (under (front (names_of c.args.table.now) (number_above c.args.rows.now c.args.spelled.now.above))) c.as_str-word.ensures.value

pub returns-then-is_package-clause-row : goal.returns-then-is_package-clause-row
returns-then-is_package-clause-row c =
    let at = (goal.at.returns-then-is_package-clause-row c).After-as_str-word in
    package_rows c.args.table.now (under (front (names_of c.args.table.now) (number_above c.args.rows.now c.args.spelled.now.above)) (cow_str_bytes c.args.spelled.now.word)) (declaration_of c.args.file c.args.spelled.now) c.package_row.result
    (package_from c.args.spelled.now.kind (sym c.is_package.ensures ∙ c.if-is_package.true))
    (subst (λ z. IfSome c.package_row.result (IsPackageOf c.args.table.now z c.args.file)) (text_is at) c.package_row.ensures)

pub returns-then-is_package-clause-index : goal.returns-then-is_package-clause-index
returns-then-is_package-clause-index c =
    let at = (goal.at.returns-then-is_package-clause-index c).After-as_str-word in
    packages_declared c.args.table.now (under (front (names_of c.args.table.now) (number_above c.args.rows.now c.args.spelled.now.above)) (cow_str_bytes c.args.spelled.now.word)) (declaration_of c.args.file c.args.spelled.now) c.package_row.result
    (package_from c.args.spelled.now.kind (sym c.is_package.ensures ∙ c.if-is_package.true))
    (subst (λ z. IfSome c.package_row.result (IsPackageOf c.args.table.now z c.args.file)) (text_is at) c.package_row.ensures)

pub returns-else-is_package-clause-row : goal.returns-else-is_package-clause-row
returns-else-is_package-clause-row c =
    let at = (goal.at.returns-else-is_package-clause-row c).After-as_str-word in
    subst (λ z. IfOk c.declare_noted.result (λ o. IfSome o (IsRowOf c.args.table.now c.declare_noted.new.table z (declaration_of c.args.file c.args.spelled.now)))) (text_is at) c.declare_noted.ensures.row

pub returns-else-is_package-clause-index : goal.returns-else-is_package-clause-index
returns-else-is_package-clause-index c =
    let at = (goal.at.returns-else-is_package-clause-index c).After-as_str-word in
    subst (λ z. IfOk c.declare_noted.result (λ o. IfSome o (λ _. SymbolIsDeclared c.args.table.now c.declare_noted.new.table z (declaration_of c.args.file c.args.spelled.now)))) (text_is at) c.declare_noted.ensures.index
