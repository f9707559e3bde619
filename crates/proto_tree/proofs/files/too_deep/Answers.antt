use Rattle.std.proofs.Common.{◌≡◌, ◌≤◌, get_or, sym, ◌∙◌, ap, arith}
use Rattle.proto_tree.specs.declared.class.Class.TheVariants as class
use Rattle.proto_tree.specs.Common.{Lexeme, open_after}
use Rattle.proto_tree.proofs.Depth.{deep_at, now_more, before_more, open_other}
use Rattle.proto_tree.proofs.files.too_deep.Goals as goal
use Rattle.proto_tree.proofs.files.too_deep.Goals.{in-Open+else-depth-eq-LIMIT, in-Close, in_default}

abbrev none : Lexeme
none = record { class = class.Syntax; at = 0 }

pub returns-then-depth-eq-LIMIT : goal.returns-then-depth-eq-LIMIT
returns-then-depth-eq-LIMIT c = deep_at c.args.tokens.now c.loop-i.i none c.loop-i.depth c.loop-i-test.true c.loop-i.invariant.now c.loop-i.invariant.before c.in-Open.is c.if-depth-eq-LIMIT.true

pub loop-i-preserved : goal.loop-i-preserved
loop-i-preserved c =
    let s = c.args.tokens.now in
    let i = c.loop-i.i in
    let d = c.loop-i.depth in
    let small : d ≤ 32 = omega (arith, c.loop-i.invariant.now, c.loop-i.invariant.before i (omega arith)) in
    let step : (open_after d (get_or s i none).class ≡ c.match-token.depth) × (c.match-token.depth ≤ 32) =
    elim c.match-token.branch [
      | in-Open+else-depth-eq-LIMIT w ↦ (ap (λ x. open_after d x) w.in-Open.is ∙ sym w.depth-is, omega (arith, small, w.depth-is, w.if-depth-eq-LIMIT))
      | in-Close w ↦ (ap (λ x. open_after d x) w.in-Close.is ∙ sym w.saturating_sub-depth.ensures ∙ sym w.depth-is, omega (arith, small, w.depth-is, w.saturating_sub-depth.ensures))
      | in_default w ↦ (open_other (get_or s i none).class d w.in_default.not-Open w.in_default.not-Close ∙ sym w.depth-is, omega (arith, small, w.depth-is))
    ] in
    let now = now_more s i none d c.match-token.depth c.loop-i-test.true c.loop-i.invariant.now step.0 in
    record { now = now; before = before_more s i c.match-token.depth c.loop-i.invariant.before now step.1 }
