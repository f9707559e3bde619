use Rattle.std.proofs.Common.{◌≢◌, ℕ, ◌+◌, ◌<◌, [], length, get_or, map, sym, ◌∙◌, ap}
use Rattle.proto_text.specs.Texts.{word_at}
use Rattle.proto_names_table.proofs.Common.{under_all, names_of, look, if_none}
use Rattle.proto_names.proofs.InScope.{drop_behind, behind_step}
use Rattle.proto_names.proofs.resolve.follow.Goals as goal

pub returns-in_err-row-clause-none : goal.returns-in_err-row-clause-none
returns-in_err-row-clause-none c =
    let step = behind_step c.args.table.now c.requires.table c.loop-behind.row c.loop-behind.invariant.within c.args.words.now c.args.rest.now c.loop-behind.behind-index c.loop-behind-test.true c.requires.plain in
    if_none c.from_residual.result ((k : ℕ) → k < length c.args.table.now.rows.items → get_or (names_of c.args.table.now) k [] ≢ under_all (get_or (names_of c.args.table.now) c.args.start []) (map (λ b. word_at c.args.words.now b.item) c.args.rest.now))
    (λ k lk e. step.missing (sym (c.find.ensures ∙ ap (look c.args.table.now (c.loop-behind.row + 1)) c.get.ensures) ∙ c.in_err-row.was) k lk
    (e ∙ sym c.loop-behind.invariant.text ∙ ap (under_all (get_or (names_of c.args.table.now) c.loop-behind.row [])) (drop_behind c.args.words.now c.args.rest.now c.loop-behind.behind-index c.loop-behind-test.true)))

pub loop-behind-preserved : goal.loop-behind-preserved
loop-behind-preserved c =
    let step = behind_step c.args.table.now c.requires.table c.loop-behind.row c.loop-behind.invariant.within c.args.words.now c.args.rest.now c.loop-behind.behind-index c.loop-behind-test.true c.requires.plain in
    let f = step.found c.in_ok-row.row (sym (c.find.ensures ∙ ap (look c.args.table.now (c.loop-behind.row + 1)) c.get.ensures) ∙ c.in_ok-row.was) in
    record { within = f.0; text = f.1 ∙ ap (under_all (get_or (names_of c.args.table.now) c.loop-behind.row [])) (sym (drop_behind c.args.words.now c.args.rest.now c.loop-behind.behind-index c.loop-behind-test.true)) ∙ c.loop-behind.invariant.text }
