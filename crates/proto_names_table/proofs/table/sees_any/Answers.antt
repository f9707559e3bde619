use Rattle.std.proofs.Common.{ℕ, ◌+◌, false, ◌||◌, drop, sym, ap, ◌∙◌, slice_index_or}
use Rattle.proto_base.proofs.Common.{list_any, drop_all}
use Rattle.proto_names_table.proofs.Tables.{any_from_here}
use Rattle.proto_names_table.proofs.table.sees_any.Goals as goal

pub loop-file-preserved : goal.loop-file-preserved
loop-file-preserved c =
    let marked = λ (f : ℕ). slice_index_or c.args.seen.now f false in
    c.loop-file.invariant ∙ any_from_here marked c.args.files.now c.loop-file.file-index 0 c.loop-file-test.true ∙ ap (λ b. b || list_any marked (drop (c.loop-file.file-index + 1) c.args.files.now)) (sym c.if-contains.ensures)

pub returns-then-contains : goal.returns-then-contains
returns-then-contains c =
    let marked = λ (f : ℕ). slice_index_or c.args.seen.now f false in
    sym (c.loop-file.invariant ∙ any_from_here marked c.args.files.now c.loop-file.file-index 0 c.loop-file-test.true ∙ ap (λ b. b || list_any marked (drop (c.loop-file.file-index + 1) c.args.files.now)) (sym c.if-contains.ensures))

pub returns : goal.returns
returns c = sym (c.loop-file.invariant ∙ ap (list_any (λ f. slice_index_or c.args.seen.now f false)) (drop_all c.loop-file.file-index c.args.files.now c.loop-file-test.false))
