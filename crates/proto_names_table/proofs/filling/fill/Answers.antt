use Rattle.std.proofs.Common.{◌≡◌, ◌<◌, ◌≤◌, IfErr, length-append, List, [], ◌∷◌, ◌++◌, length, get_or, drop, take, sym, ◌∙◌, ap, subst, arith}
use Rattle.std.specs.Cow.{cow_str_bytes}
use Rattle.proto_names_outline.specs.Listing.{needs}
use Rattle.proto_names_rules.proofs.Common.{IsPlain, under, front}
use Rattle.proto_names_table.specs.Common.{Named, named_in, names_of, AreRowsOfNames, declaration_of, Holds, IsClashAt, number_above, StopsIn}
use Rattle.std.proofs.lemmas.Result.{IfOk-from_err, err_from_is_err_and}
use Rattle.proto_names_table.proofs.Filled.{rows_within, rows_next, held_next, stops_here, kept_itself, kept_both, segment_none}
use Rattle.proto_names_table.proofs.filling.fill.Goals as goal

pub declare_one-requires-clause-within : goal.declare_one-requires-clause-within
declare_one-requires-clause-within c = λ k row l. (
    let e = c.deref.ensures.value in
    subst (λ z. get_or z k row < length c.loop-k.names.rows.items) (sym c.deref.ensures.value)
    (rows_within c.loop-k.names (named_in c.args.file c.args.spelled.now) c.loop-k.all.items c.loop-k.invariant.rows k row (omega (arith, l, ap length e))))

pub loop-k-preserved : goal.loop-k-preserved
loop-k-preserved c =
    let n = c.requires.end in
    let l : c.loop-k.k < length c.args.spelled.now = let m = c.loop-k-test.true in omega (arith, m, n) in
    let known = subst (AreRowsOfNames c.loop-k.names (named_in c.args.file c.args.spelled.now)) (sym c.deref.ensures.value) c.loop-k.invariant.rows in
    let count = c.loop-k.invariant.count in
    let size = ap length c.deref.ensures.value ∙ count in
    let e = c.in_ok-push.ensures.items in
    let more = length-append c.loop-k.all.items (c.in_ok-row.row ∷ []) in
    let there = c.in_ok-row.ensures.row in
    let len : c.len-start.result ≡ length c.args.rows.items = c.len-start.ensures ∙ c.args.rows.ok.0 in
    let start : length c.args.rows.items ≤ c.loop-k.k = let a = c.loop-k.auto.k in omega (arith, a, len) in
    record {
      table = c.in_ok-row.ensures.table;
      kept = kept_both c.args.table c.loop-k.names c.declare_one.new.table c.loop-k.invariant.kept there.kept;
      count = omega (arith, ap length e, more, count);
      rows = subst (AreRowsOfNames c.declare_one.new.table (named_in c.args.file c.args.spelled.now)) (ap (λ z. z ++ c.in_ok-row.row ∷ []) c.deref.ensures.value ∙ sym e)
          (rows_next c.loop-k.names c.declare_one.new.table c.args.file c.args.spelled.now c.deref.result.now c.loop-k.k c.index-spelled-k.result c.index-spelled-k.is c.requires.spelled l size known c.in_ok-row.row there);
      held = λ ds held.
          held_next c.loop-k.names c.declare_one.new.table c.args.file c.args.spelled.now c.deref.result.now c.loop-k.k c.index-spelled-k.result c.index-spelled-k.is c.requires.spelled l size known c.in_ok-row.row there
          ds (length c.args.rows.items) start c.loop-k.invariant.table c.in_ok-row.ensures.table c.in_ok-row.ensures.index (c.loop-k.invariant.held ds held);
    }

pub returns-clause-held : goal.returns-clause-held
returns-clause-held c = λ ds held. (
    let len : c.len-start.result ≡ length c.args.rows.items = c.len-start.ensures ∙ c.args.rows.ok.0 in
    let s = c.requires.start in
    let a : c.loop-k.k ≤ c.args.end = c.loop-k.auto.k-end (omega (arith, s, len)) in
    let e : c.loop-k.k ≡ c.args.end = let b = c.loop-k-test.false in omega (arith, a, b) in
    subst (λ z. Holds c.loop-k.names (ds ++ drop (length c.args.rows.items) (take z (named_in c.args.file c.args.spelled.now)))) e (c.loop-k.invariant.held ds held))

pub declare_one-requires-clause-table : goal.declare_one-requires-clause-table
declare_one-requires-clause-table c = c.loop-k.invariant.table

pub returns-clause-table : goal.returns-clause-table
returns-clause-table c = c.loop-k.invariant.table

pub returns-clause-kept : goal.returns-clause-kept
returns-clause-kept c = c.loop-k.invariant.kept

pub returns-clause-rows : goal.returns-clause-rows
returns-clause-rows c = c.loop-k.invariant.rows

pub loop-k-init : goal.loop-k-init
loop-k-init c =
    let len : c.len-start.result ≡ length c.args.rows.items = c.len-start.ensures ∙ c.args.rows.ok.0 in
    record {
      table = c.requires.table;
      kept = kept_itself c.args.table;
      count = sym len;
      rows = c.requires.rows;
      held = λ ds held. subst (Holds c.args.table) (sym (segment_none ds (named_in c.args.file c.args.spelled.now) (length c.args.rows.items) c.len-start.result len)) held;
    }

pub bounds-spelled-k : goal.bounds-spelled-k
bounds-spelled-k c = let m = c.loop-k-test.true in let n = c.requires.end in omega (arith, m, n)

pub declare_one-requires-clause-ordered : goal.declare_one-requires-clause-ordered
declare_one-requires-clause-ordered c =
    let m = c.loop-k-test.true in
    let n = c.requires.end in
    let size = ap length c.deref.ensures.value ∙ c.loop-k.invariant.count in
    let h = c.requires.spelled.ordered c.loop-k.k c.index-spelled-k.result (omega (arith, m, n)) in
    subst (λ z. needs z.above ≤ length c.deref.result.now) (sym c.index-spelled-k.is) (omega (arith, h, size))

pub declare_one-requires-clause-plain : goal.declare_one-requires-clause-plain
declare_one-requires-clause-plain c =
    let m = c.loop-k-test.true in
    let n = c.requires.end in
    subst (λ z. IsPlain (cow_str_bytes z.word)) (sym c.index-spelled-k.is) (c.requires.spelled.plain c.loop-k.k c.index-spelled-k.result (omega (arith, m, n)))

pub returns-clause-count : goal.returns-clause-count
returns-clause-count c =
    let len : c.len-start.result ≡ length c.args.rows.items = c.len-start.ensures ∙ c.args.rows.ok.0 in
    let s = c.requires.start in
    let a : c.loop-k.k ≤ c.args.end = c.loop-k.auto.k-end (omega (arith, s, len)) in
    let b = c.loop-k-test.false in
    let n = c.loop-k.invariant.count in
    omega (arith, a, b, n)

pub returns-in_err-row : goal.returns-in_err-row
returns-in_err-row c =
    let p = err_from_is_err_and c.from_residual.result c.from_residual.ensures.1 in
    let len : c.len-start.result ≡ length c.args.rows.items = c.len-start.ensures ∙ c.args.rows.ok.0 in
    let start : length c.args.rows.items ≤ c.loop-k.k = let a = c.loop-k.auto.k in omega (arith, a, len) in
    let n = c.requires.end in
    let l : c.loop-k.k < length c.args.spelled.now = let m = c.loop-k-test.true in omega (arith, m, n) in
    let known = subst (AreRowsOfNames c.loop-k.names (named_in c.args.file c.args.spelled.now)) (sym c.deref.ensures.value) c.loop-k.invariant.rows in
    let size = ap length c.deref.ensures.value ∙ c.loop-k.invariant.count in
    record {
      table = IfOk-from_err c.from_residual.result _ c.from_residual.ensures.0;
      kept = IfOk-from_err c.from_residual.result _ c.from_residual.ensures.0;
      count = IfOk-from_err c.from_residual.result _ c.from_residual.ensures.0;
      rows = IfOk-from_err c.from_residual.result _ c.from_residual.ensures.0;
      held = IfOk-from_err c.from_residual.result _ c.from_residual.ensures.0;
      fault = subst (λ r. IfErr r (λ e. (ds : List Named) → Holds c.args.table ds → StopsIn ds (named_in c.args.file c.args.spelled.now) (length c.args.rows.items) c.args.end e)) (sym p.1) (λ ds held.
          stops_here c.loop-k.names c.loop-k.names c.args.file c.args.spelled.now c.deref.result.now c.loop-k.k c.index-spelled-k.result c.index-spelled-k.is c.requires.spelled l size known
          ds (length c.args.rows.items) c.args.end p.0 start c.loop-k-test.true (c.loop-k.invariant.held ds held) (subst (IsClashAt c.loop-k.names (under (front (names_of c.loop-k.names) (number_above c.deref.result.now c.index-spelled-k.result.above)) (cow_str_bytes c.index-spelled-k.result.word)) (declaration_of c.args.file c.index-spelled-k.result)) (sym p.2) c.in_err-row.ensures.clash));
    }

pub returns-in_err-push : goal.returns-in_err-push
returns-in_err-push c =
    let p = err_from_is_err_and c.from_residual-in_err-push.result c.from_residual-in_err-push.ensures.1 in
    rw (p.1, p.2) (record { table = tt; kept = tt; count = tt; rows = tt; held = tt; fault = λ ds held. tt })
