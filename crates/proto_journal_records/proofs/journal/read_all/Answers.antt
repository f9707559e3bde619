use Rattle.std.proofs.Common.{rules, ◌≡◌, ◌≢◌, ◌≤◌, [], List, length, true, false, subst, sym, ap, ◌∙◌, arith}
use Rattle.std.proofs.lemmas.Result.{err_from_is_err_and}
use Rattle.proto_journal_records.specs.Common.{is_last_open, journal_limit, RecordOf}
use Rattle.proto_journal_records.proofs.Lines.{less_is_left}
use Rattle.proto_journal_records.proofs.JournalLists.{IsReadTo, read_none_at, read_more, read_whole, none_follows, none_is_bad, too_long, is_nil, is_not_nil}
use Rattle.proto_journal_records.proofs.journal.read_all.Goals as goal

pub returns-then-bytes-gt-MAX_JOURNAL_LEN-clause-bad : goal.returns-then-bytes-gt-MAX_JOURNAL_LEN-clause-bad
returns-then-bytes-gt-MAX_JOURNAL_LEN-clause-bad c = λ is records j. too_long c.args.version c.args.bytes.now records (omega arith) j

pub loop-left-init : goal.loop-left-init
loop-left-init c = read_none_at c.args.version c.args.bytes.now c.new-records.result.items (search rules)

pub returns-then-last_is_open-clause-bad : goal.returns-then-last_is_open-clause-bad
returns-then-last_is_open-clause-bad c = λ is records j.
    let left = c.loop-left.left.now in
    let some : left ≢ [] = is_not_nil left c.is_empty.result c.is_empty.ensures c.loop-left-test.true in
    let last : is_last_open c.loop-left.records.items ≡ true = ap is_last_open (sym c.deref.ensures.value) ∙ sym c.last_is_open.ensures ∙ c.if-last_is_open.true in
    none_follows c.args.version c.args.bytes.now c.loop-left.records.items left records c.loop-left.invariant some last j

pub returns-in_err-noted-clause-bad : goal.returns-in_err-noted-clause-bad
returns-in_err-noted-clause-bad c = λ is records j.
    let left = c.loop-left.left.now in
    let some : left ≢ [] = is_not_nil left c.is_empty.result c.is_empty.ensures c.loop-left-test.true in
    let p = err_from_is_err_and c.from_residual.result c.from_residual.ensures.1 in
    let made = p.1 in
    let from = p.2 in
    let was = c.in_err-noted.was in
    let bad = c.in_err-noted.ensures.bad (cc) in
    none_is_bad c.args.version c.args.bytes.now c.loop-left.records.items left c.first_line.result.0.now c.first_line.result.1.now records c.loop-left.invariant some c.first_line.ensures bad j

pub loop-left-preserved : goal.loop-left-preserved
loop-left-preserved c =
    let left = c.loop-left.left.now in
    let some : left ≢ [] = is_not_nil left c.is_empty.result c.is_empty.ensures c.loop-left-test.true in
    let closed : is_last_open c.loop-left.records.items ≡ false = ap is_last_open (sym c.deref.ensures.value) ∙ sym c.last_is_open.ensures ∙ c.if-last_is_open.false in
    subst (λ (rs : List RecordOf). IsReadTo c.args.version c.args.bytes.now rs c.first_line.result.1.now) (sym c.in_ok-push.ensures.items)
    (read_more c.args.version c.args.bytes.now c.loop-left.records.items left c.first_line.result.0.now c.first_line.result.1.now c.in_ok-noted.noted c.loop-left.invariant some closed c.first_line.ensures c.in_ok-noted.ensures.ok.0 c.in_ok-noted.ensures.ok.1)

pub loop-left-smaller : goal.loop-left-smaller
loop-left-smaller c =
    let left = c.loop-left.left.now in
    let some : left ≢ [] = is_not_nil left c.is_empty.result c.is_empty.ensures c.loop-left-test.true in
    less_is_left left c.first_line.result.0.now c.first_line.result.1.now c.first_line.ensures some

pub returns-clause-ok : goal.returns-clause-ok
returns-clause-ok c =
    let left = c.loop-left.left.now in
    let none : left ≡ [] = is_nil left c.is_empty.result c.is_empty.ensures c.loop-left-test.false in
    let short : length c.args.bytes.now ≤ journal_limit = omega arith in
    read_whole c.args.version c.args.bytes.now c.loop-left.records.items left c.loop-left.invariant none short
