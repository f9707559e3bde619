use Rattle.std.proofs.Common.{◌≡◌, false, get_or, sym, ◌∙◌, ap, slice_set}
use Rattle.proto_base.proofs.Common.{both_ways, get_or_default}
use Rattle.proto_names_rules.proofs.Common.{is_package, package_from}
use Rattle.proto_names_table.specs.Common.{with_declaration}
use Rattle.proto_names_table.specs.declared.table.Row.{Row}
use Rattle.proto_names_update.specs.Forgetting.{undeclared}
use Rattle.proto_names_update.proofs.Leaving.{one_forgotten, package_stays}
use Rattle.proto_names_update.proofs.Undoing.{set_fits, set_undone}
use Rattle.proto_names_update.proofs.renewal.forget.Goals as goal

pub returns-then-is_package-clause-rows : goal.returns-then-is_package-clause-rows
returns-then-is_package-clause-rows c = package_stays c.args.table.now c.args.row c.index.result.now c.index.ensures (package_from c.index.result.now.symbol.kind (sym c.is_package.ensures ∙ c.if-is_package.true))

pub forget-requires-clause-other : goal.forget-requires-clause-other
forget-requires-clause-other c = λ r e.
    both_ways (is_package c.index.result.now.symbol.kind) (sym c.is_package.ensures ∙ c.if-is_package.false)
    (ap (λ (z : Row). is_package z.symbol.kind) (c.index.ensures ∙ get_or_default c.args.table.now.rows.items c.args.row c.index.result.now r c.requires.within) ∙ ap is_package e)

rows : (c : goal.After-forget) → c.forget.new.self.rows.items ≡ slice_set c.args.table.now.rows.items c.args.row (undeclared c.index.result.now)
rows c =
    let own = c.index.result.now in
    c.forget.ensures.rows own
    ∙ ap (λ s. slice_set c.args.table.now.rows.items c.args.row (with_declaration s false (get_or c.args.table.now.rows.items c.args.row own))) (c.forget.ensures.was own)
    ∙ ap (λ z. slice_set c.args.table.now.rows.items c.args.row (undeclared z)) (sym c.index.ensures)

pub returns-clause-fits : goal.returns-clause-fits
returns-clause-fits c = set_fits c.note.new.self c.args.table.now c.forget.new.self c.args.row c.index.result.now c.index.result.now.symbol false c.requires.within c.index.ensures (rows c) c.forget.ensures.below c.note.ensures.fits

pub returns-clause-undone : goal.returns-clause-undone
returns-clause-undone c = set_undone c.note.new.self c.args.table.now c.forget.new.self c.args.row c.index.result.now c.index.result.now.symbol false c.requires.within c.index.ensures (rows c) c.forget.ensures.below c.in_ok-note.ensures.noted ∙ c.note.ensures.undone

pub returns-clause-rows : goal.returns-clause-rows
returns-clause-rows c =
    one_forgotten c.args.table.now c.forget.new.self c.args.row c.index.result.now c.index.ensures c.requires.within
    (λ e. both_ways (is_package c.index.result.now.symbol.kind) (sym c.is_package.ensures ∙ c.if-is_package.false) (ap is_package e)) (rows c) c.forget.ensures.below
