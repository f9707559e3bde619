use Rattle.std.proofs.Common.{◌≡◌, ℕ, List, Some, refl, sym}
use Rattle.std.proofs.lemmas.Result.{err_from_is_err_and}
use Rattle.proto_tree.specs.Common.{Class, Lexeme, Stop, Reader, Fails, token, behind_at}
use Rattle.proto_tree.specs.declared.class.Expected.TheVariants as want
use Rattle.proto_tree.specs.declared.reading.Stop.TheVariants as stop
use Rattle.proto_tree.proofs.Many.{so_far_start, so_far_goes_on, so_far_fails, so_far_stops, so_far_ends}
use Rattle.proto_tree.proofs.reading.more_items.Goals as goal

both : {A : Type 0} (c : Class) (p : Reader A) (rest middle after : List Lexeme) (i : ℕ) (x : A)
    → token (want.One c) rest ≡ Some (i, middle) → p middle ≡ Some (x, after) → behind_at c p rest ≡ Some (record { separator = i; item = x }, after)
unfolding behind_at
both c p rest middle after i x e f = rw (e, f) refl

second_fails : {A : Type 0} (c : Class) (p : Reader A) (rest middle : List Lexeme) (i : ℕ) (f : Stop) → token (want.One c) rest ≡ Some (i, middle) → Fails f (p middle) → Fails f (behind_at c p rest)
unfolding behind_at
second_fails c p rest middle i stop.Memory e f = tt
second_fails c p rest middle i stop.Syntax e f = rw (e, f) refl

pub loop-init : goal.loop-init
loop-init g c = rw c.new-items.ensures (so_far_start (want.One c.args.separator) (behind_at c.args.separator (g.T.Listed.item_at c.args.want)) c.args.tokens.now)

pub loop-preserved : goal.loop-preserved
loop-preserved g c =
    let read = both c.args.separator (g.T.Listed.item_at c.args.want) c.loop.rest.now c.first-separator.result.1.now c.in_ok-item.after.now c.first-separator.result.0 c.in_ok-item.item c.first-separator.ensures c.in_ok-item.ensures in
    rw c.in_ok-push.ensures.grown (so_far_goes_on {p = behind_at c.args.separator (g.T.Listed.item_at c.args.want)} (record { separator = c.first-separator.result.0; item = c.in_ok-item.item }) c.in_ok-item.after.now c.loop.invariant c.loop-test.true c.if-not-starts.ensures read)

pub returns-in_err-item : goal.returns-in_err-item
returns-in_err-item g c =
    let p = err_from_is_err_and c.from_residual.result c.from_residual.ensures.1 in
    let fails = second_fails c.args.separator (g.T.Listed.item_at c.args.want) c.loop.rest.now c.first-separator.result.1.now c.first-separator.result.0 c.in_err-item.field-0.0 c.first-separator.ensures c.in_err-item.ensures in
    rw (p.1, p.2) (so_far_fails {p = behind_at c.args.separator (g.T.Listed.item_at c.args.want)} c.in_err-item.field-0.0 c.loop.invariant c.loop-test.true (sym c.if-not-starts.ensures) fails)

pub returns-then-not-starts : goal.returns-then-not-starts
returns-then-not-starts g c = so_far_stops {p = behind_at c.args.separator (g.T.Listed.item_at c.args.want)} c.loop.invariant c.loop-test.true (sym c.if-not-starts.ensures)

pub returns : goal.returns
returns g c = so_far_ends {p = behind_at c.args.separator (g.T.Listed.item_at c.args.want)} c.loop.invariant c.loop-test.false
