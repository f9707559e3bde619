use Rattle.std.proofs.Common.{◌+◌, get_or, subst, arith, take_all, refl, length}
use Rattle.memchr.specs.Find.{NoneBefore, Nowhere, Passes, is_byte}
use Rattle.proto_journal_records.specs.Journals.{HasNoFeed}
use Rattle.proto_journal_records.proofs.Lines.{is_feed, line_at, line_to_end, none_found}
use Rattle.proto_journal_records.proofs.journal.first_line.Goals as goal

pub returns-in-Some : goal.returns-in-Some
returns-in-Some c =
    let bytes = c.args.bytes.now in
    let k = c.in-Some.place in
    let h = c.memchr.ensures in
    let found : NoneBefore (Passes (is_byte 10) bytes) 0 (length bytes) k × Passes (is_byte 10) bytes k = rw c.in-Some.is at h in
    line_at bytes k (k + 1) c.split_at.result.0.now c.split_at.result.1.now found.0.high (is_feed (get_or bytes k 0) found.1) (none_found bytes k (omega (arith, found.0.high)) found.0.before) refl c.split_at.ensures.front c.split_at.ensures.back

pub returns-in-None : goal.returns-in-None
returns-in-None c =
    let bytes = c.args.bytes.now in
    let h = c.memchr.ensures in
    let none : Nowhere (Passes (is_byte 10) bytes) 0 (length bytes) = rw c.in-None.is at h in
    line_to_end bytes (subst HasNoFeed (take_all (length bytes) bytes (omega arith)) (none_found bytes (length bytes) (omega arith) none))
