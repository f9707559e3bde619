use Rattle.std.proofs.Common.{◌≡◌, ◌+◌, ◌++◌, [], ◌∷◌, List, ap, sym, ◌∙◌, take, arith}
use Rattle.std.proofs.lemmas.List.{take_all, take_more}
use Rattle.proto_journal_records.specs.Common.{Second, journal_text, RecordOf}
use Rattle.proto_journal_records.proofs.JournalLists.{second_push}
use Rattle.proto_journal_records.proofs.journal.second_text.Goals as goal

pub loop-noted-preserved : goal.loop-noted-preserved
loop-noted-preserved c =
    let rs : List RecordOf = c.args.records.now in
    let i = c.loop-noted.noted-index in
    let r : RecordOf = c.noted-item.result in
    let more : take (i + 1) rs ≡ take i rs ++ r ∷ [] = take_more rs i r c.loop-noted-test.true ∙ ap (λ (x : RecordOf). take i rs ++ x ∷ []) (sym c.noted-item.is) in
    second_push (take i rs) r c.loop-noted.bytes.items c.as_bytes.result.now c.extend_from_slice.new.self.items c.loop-noted.invariant
    (c.as_bytes.ensures.value ∙ c.in_ok-line.ensures.text) c.in_ok-extend_from_slice.ensures.items
    ∙ ap (journal_text Second) (sym more)

pub returns : goal.returns
returns c = c.loop-noted.invariant ∙ ap (journal_text Second) (take_all c.loop-noted.noted-index c.args.records.now (omega (arith, c.loop-noted-test.false)))
