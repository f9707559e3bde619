use Rattle.std.proofs.Common.{◌≡◌, ◌⊎◌, ℕ, List, [], ◌∷◌, ◌++◌, length, get_or, sym, ap, subst, arith, take_all}
use Rattle.std.specs.List.{Contains}
use Rattle.proto_names_affected.proofs.Sights.{AreForeign, foreign_more, foreign_none}
use Rattle.proto_names_affected.proofs.shown_names.rows_not_own.Goals as goal

pub loop-row-init : goal.loop-row-init
loop-row-init c = subst (AreForeign [] c.args.own.now c.args.packages.now.keys) (sym c.new-rows.ensures.items) (foreign_none c.args.own.now c.args.packages.now.keys)

pub loop-row-preserved : goal.loop-row-preserved
loop-row-preserved c =
    let all = c.args.packages.now.keys in
    let own = c.args.own.now in
    let i = c.loop-row.row-index in
    let was = c.loop-row.rows.items in
    let now = c.add_foreign.new.rows.items in
    let keys = c.as_slice-row-items.ensures.keys in
    foreign_more all own was now i (omega (arith, c.loop-row-test.true, ap length keys))
    (subst (λ (xs : List ℕ). (Contains own (get_or xs i 0) × (now ≡ was)) ⊎ (now ≡ was ++ get_or xs i 0 ∷ [])) keys c.in_ok-add_foreign.ensures)
    c.loop-row.invariant

pub returns-clause-each : goal.returns-clause-each
returns-clause-each c = λ row there.
    (let all = c.args.packages.now.keys in
    let whole = take_all c.loop-row.row-index all (omega (arith, c.loop-row-test.false, ap length c.as_slice-row-items.ensures.keys)) in
    c.loop-row.invariant.each row (subst (λ (xs : List ℕ). Contains xs row) (sym whole) there))

pub returns-clause-only : goal.returns-clause-only
returns-clause-only c = c.loop-row.invariant.only
