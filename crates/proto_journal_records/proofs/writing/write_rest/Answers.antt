use Rattle.proto_journal_records.proofs.DataTexts.{adds_both, adds_one, if_ok}
use Rattle.proto_journal_records.proofs.writing.write_rest.Goals as goal

pub returns-clause-written : goal.returns-clause-written
returns-clause-written c = if_ok c.end_object.result (λ x is.
    let added =
    adds_both (adds_one c.key.ensures c.in_ok-key.was) (adds_both c.in_ok-write_files.ensures.written (adds_both c.in_ok-write_text.ensures (adds_both c.in_ok-write_number.ensures (adds_one c.end_object.ensures is)))) in
    rw c.state_text.ensures at added)
