use Rattle.std.proofs.Common.{sym, subst, ◌∙◌}
use Rattle.proto_text.specs.Strings.{Means}
use Rattle.proto_text.proofs.Values.{no_unit_there, other_unit, unit_taken}
use Rattle.proto_text.proofs.value.behind_unit.Goals as goal

pub returns-in_err-found-clause-same : goal.returns-in_err-found-clause-same
returns-in_err-found-clause-same c =
    rw c.from_residual.ensures (no_unit_there c.args.body.now c.args.value.now c.requires (sym c.unit.ensures.value ∙ c.in_err-found.was))

pub returns-then-found-first-clause-same : goal.returns-then-found-first-clause-same
returns-then-found-first-clause-same c = λ m.
    other_unit c.args.body.now c.in_ok-found.found c.in_ok-found.len c.in_ok-first.first.now c.in_ok-first.more.now (sym c.unit.ensures.value ∙ c.in_ok-found.was) c.if-found-first.true
    (subst (Means c.args.body.now) c.in_ok-first.ensures.cases.0 m)

pub returns-clause-same : goal.returns-clause-same
returns-clause-same c =
    unit_taken c.args.body.now c.split_at.result.1.now c.args.value.now c.in_ok-found.found c.in_ok-found.len c.in_ok-first.first.now c.in_ok-first.more.now
    (sym c.unit.ensures.value ∙ c.in_ok-found.was) c.split_at.ensures.back c.in_ok-first.ensures.cases.0 c.if-found-first.false
