use Rattle.std.proofs.Common.{◌≡◌, Some, arith, sym, ◌∙◌}
use Rattle.json.specs.Find.{get}
use Rattle.json.specs.Value.{value_view}
use Rattle.proto_journal_records.proofs.ReadSteps.{narrowed, number_is, same_some}
use Rattle.proto_journal_records.proofs.reading.small_number_at.Goals as goal

pub returns-in_err-number : goal.returns-in_err-number
returns-in_err-number c = λ n small e.
    let found : c.as_u64.result ≡ Some n = number_is (get c.args.key.now (value_view c.args.value.now)) (value_view c.in_ok-get.field-0.now) c.as_u64.result n c.in_ok-get.ensures c.as_u64.ensures (omega arith) e in
    cc

pub returns : goal.returns
returns c = λ n small e.
    let found : c.as_u64.result ≡ Some n = number_is (get c.args.key.now (value_view c.args.value.now)) (value_view c.in_ok-get.field-0.now) c.as_u64.result n c.in_ok-get.ensures c.as_u64.ensures (omega arith) e in
    let same = same_some c.in_ok-number.number n (sym c.in_ok-number.was ∙ found) in
    c.ok.ensures.value ∙ narrowed c.in_ok-number.number n c.try_from.result same small c.try_from.ensures
