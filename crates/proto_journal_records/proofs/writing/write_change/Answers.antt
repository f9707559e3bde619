use Rattle.std.proofs.Common.{rules, ◌≡◌}
use Rattle.std.specs.String.{string_bytes}
use Rattle.proto_journal_records.specs.Common.{change_data}
use Rattle.proto_journal_records.proofs.DataTexts.{adds_both, adds_one, if_ok}
use Rattle.proto_journal_records.proofs.writing.write_change.Goals as goal

pub returns-clause-written : goal.returns-clause-written
unfolding change_data
returns-clause-written c =
    let path : c.deref.result.now ≡ string_bytes c.args.change.now.path = search rules in
    if_ok c.end_object.result (λ x is.
    let added =
    adds_both (adds_one c.begin_object.ensures c.in_ok-begin_object.was) (adds_both c.in_ok-write_number.ensures (adds_both c.in_ok-write_number-2.ensures
    (adds_both c.in_ok-write_text.ensures (adds_both (adds_one c.key.ensures c.in_ok-key.was) (adds_both c.in_ok-write_edits.ensures.written (adds_one c.end_object.ensures is)))))) in
    rw path at added)
