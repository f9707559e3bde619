use Rattle.std.proofs.Common.{◌<◌, [], ◌∷◌, length, get_or, take, refl, sym, ◌∙◌, subst, arith}
use Rattle.std.proofs.lemmas.List.{take_all, take_more}
use Rattle.proto_base.proofs.Common.{All-contains, IfOk-from_err}
use Rattle.proto_names_update.specs.Forgetting.{AreForgotten}
use Rattle.proto_names_update.proofs.Leaving.{forgotten_more, index_left, none_forgotten}
use Rattle.proto_names_update.proofs.renewal.forget_all.Goals as goal

pub loop-row-init : goal.loop-row-init
loop-row-init c = record {
  table = c.requires.table;
  fits = c.requires.fits;
  undone = refl;
  forgotten = none_forgotten c.args.table.now;
}

pub forget-requires-clause-within : goal.forget-requires-clause-within
forget-requires-clause-within c =
    let h = c.requires.within c.loop-row.row-index 0 c.loop-row-test.true in
    omega (arith, h, c.loop-row.invariant.forgotten.size)

pub loop-row-preserved : goal.loop-row-preserved
loop-row-preserved c =
    let i = c.loop-row.invariant in
    let k = c.loop-row.row-index in
    record {
      table = c.forget.ensures.table;
      fits = c.forget.ensures.fits;
      undone = c.forget.ensures.undone ∙ i.undone;
      forgotten = subst (λ z. AreForgotten z c.args.table.now c.forget.new.table) (sym (take_more c.args.rows.now k 0 c.loop-row-test.true))
          (forgotten_more c.args.table.now c.loop-row.table c.forget.new.table (take k c.args.rows.now) (get_or c.args.rows.now k 0 ∷ []) i.forgotten c.in_ok-forget.ensures.rows);
    }

forgotten : (c : goal.After-loop-row) → AreForgotten c.args.rows.now c.args.table.now c.loop-row.table
forgotten c = subst (λ z. AreForgotten z c.args.table.now c.loop-row.table) (take_all c.loop-row.row-index c.args.rows.now c.loop-row-test.false) c.loop-row.invariant.forgotten

pub returns-clause-rows : goal.returns-clause-rows
returns-clause-rows c = forgotten c

pub returns-clause-index : goal.returns-clause-index
returns-clause-index c = λ old rest index left.
    index_left c.args.table.now c.loop-row.table c.args.rows.now (forgotten c) c.requires.table (λ k m. All-contains (λ row. row < length c.args.table.now.rows.items) c.args.rows.now k c.requires.within m) old rest index left

pub returns-in_err-forget : goal.returns-in_err-forget
returns-in_err-forget c =
    let r = c.from_residual.result in
    let err = c.from_residual.ensures.0 in
    record {
      table = c.forget.ensures.table;
      fits = c.forget.ensures.fits;
      undone = c.forget.ensures.undone ∙ c.loop-row.invariant.undone;
      rows = IfOk-from_err r _ err;
      index = IfOk-from_err r _ err;
    }
