use Rattle.std.proofs.Common.{rules, ◌≡◌, [], ◌∷◌, ◌++◌, length}
use Rattle.proto_journal_records.proofs.Lines.{back_start, ends_at_feed, ends_at_start}
use Rattle.proto_journal_records.proofs.JournalLists.{before_last}
use Rattle.proto_journal_records.proofs.journal.without_last.Goals as goal

pub loop-byte-init : goal.loop-byte-init
loop-byte-init c =
    let split : c.args.journal.now ≡ c.in-Some.left.now ++ c.in-Some.field-0-0.now ∷ [] = search rules in
    back_start c.args.journal.now c.in-Some.left.now c.in-Some.field-0-0.now split

pub returns-then-byte-eq10 : goal.returns-then-byte-eq10
returns-then-byte-eq10 c = λ v records last is e.
    let left = c.loop-byte.left.now in
    let split : left ≡ c.in-Some-split_last.front.now ++ c.in-Some-split_last.byte.now ∷ [] = search rules in
    before_last v c.args.journal.now left records last c.loop-byte.invariant (ends_at_feed left c.in-Some-split_last.front.now c.in-Some-split_last.byte.now split c.if-byte-eq10.true) is e

pub returns : goal.returns
returns c = λ v records last is e.
    let left = c.loop-byte.left.now in
    let none : length left ≡ 0 = search rules in
    before_last v c.args.journal.now left records last c.loop-byte.invariant (ends_at_start left none) is e
