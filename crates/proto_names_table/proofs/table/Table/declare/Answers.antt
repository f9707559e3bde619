use Rattle.std.proofs.Common.{sym, subst, arith, IfNone, IfOk, IfSome}
use Rattle.proto_base.proofs.Common.{length-map, IfOk-from_err}
use Rattle.proto_names_rules.proofs.Common.{under, front}
use Rattle.proto_names_table.specs.Common.{SymbolIsDeclared, IsRowOf, IsTaken, names_of}
use Rattle.proto_names_table.proofs.Indexed.{declared_new}
use Rattle.proto_names_table.proofs.Kept.{row_added}
use Rattle.proto_names_table.proofs.Tables.{at_refusal}
use Rattle.proto_names_table.proofs.table.Table.declare.Goals as goal

pub returns-in_ok-row-in-None-clause-index : goal.returns-in_ok-row-in-None-clause-index
returns-in_ok-row-in-None-clause-index c =
    let r = c.in_ok-row-in-None.ensures.rows.1 in
    declared_new c.args.self.now c.add.new.self r.0 (under (front (names_of c.args.self.now) c.args.above) c.args.word.now) r.1 r.2 r.4 r.5 c.args.symbol r.3

pub returns-in_ok-row-in-None-clause-row : goal.returns-in_ok-row-in-None-clause-row
returns-in_ok-row-in-None-clause-row c =
    let r = c.in_ok-row-in-None.ensures.rows.1 in
    let text = under (front (names_of c.args.self.now) c.args.above) c.args.word.now in
    subst (IsRowOf c.args.self.now c.add.new.self text c.args.symbol) (sym c.in_ok-row-in-None.ensures.rows.0) (row_added c.args.self.now c.add.new.self r.0 text c.args.symbol r.1 r.2 r.3 r.5)

pub declare_again-requires-clause-within : goal.declare_again-requires-clause-within
declare_again-requires-clause-within c =
    let n = length-map c.args.self.now.rows.items (λ r. r.name) in
    let s = c.requires.table.forest.sound c.args.above c.args.word.now c.in-Some.row (omega (arith, c.requires.within, n)) (sym c.in-Some.ensures) in
    omega (arith, s.0, n)

pub add-requires : goal.add-requires
add-requires c = record { table = c.requires.table; within = c.requires.within; plain = c.requires.plain; new = sym c.in-None.ensures }

pub returns-in_err-row-in-None : goal.returns-in_err-row-in-None
returns-in_err-row-in-None c =
    let r = c.from_residual.result in
    let err = c.from_residual.ensures.0 in
    record {
      table = IfOk-from_err r _ err;
      index = IfOk-from_err r _ err;
      row = IfOk-from_err r _ err;
      change = IfOk-from_err r _ err;
      clash = IfOk-from_err r _ err;
      clash_kept = IfOk-from_err r _ err;
      kept = at_refusal r _ c.in_err-row-in-None.ensures.kept;
    }

pub returns-in-Some-clause-index : goal.returns-in-Some-clause-index
returns-in-Some-clause-index c =
    let n = length-map c.args.self.now.rows.items (λ r. r.name) in
    let s = c.requires.table.forest.sound c.args.above c.args.word.now c.in-Some.row (omega (arith, c.requires.within, n)) (sym c.in-Some.ensures) in
    subst (λ z. IfOk c.declare_again.result (λ o. IfSome o (λ _. SymbolIsDeclared c.args.self.now c.declare_again.new.self z c.args.symbol))) s.1 c.declare_again.ensures.index

pub returns-in-Some-clause-row : goal.returns-in-Some-clause-row
returns-in-Some-clause-row c =
    let n = length-map c.args.self.now.rows.items (λ r. r.name) in
    let s = c.requires.table.forest.sound c.args.above c.args.word.now c.in-Some.row (omega (arith, c.requires.within, n)) (sym c.in-Some.ensures) in
    subst (λ z. IfOk c.declare_again.result (λ o. IfSome o (IsRowOf c.args.self.now c.declare_again.new.self z c.args.symbol))) s.1 c.declare_again.ensures.row

pub returns-in-Some-clause-clash : goal.returns-in-Some-clause-clash
returns-in-Some-clause-clash c =
    let n = length-map c.args.self.now.rows.items (λ r. r.name) in
    let s = c.requires.table.forest.sound c.args.above c.args.word.now c.in-Some.row (omega (arith, c.requires.within, n)) (sym c.in-Some.ensures) in
    subst (λ z. IfOk c.declare_again.result (λ o. IfNone o (IsTaken c.args.self.now z c.args.symbol))) s.1 c.declare_again.ensures.clash
