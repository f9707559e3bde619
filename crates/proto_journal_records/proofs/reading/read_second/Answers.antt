use Rattle.std.proofs.Common.{◌≡◌}
use Rattle.std.specs.Prelude.{option_map}
use Rattle.json.specs.Value.{value_view}
use Rattle.proto_edit_entries.specs.EditsAsked.{asked}
use Rattle.proto_journal_records.specs.declared.record.Version.TheVariants.{Second}
use Rattle.proto_journal_records.proofs.EditData.{edit_in, files_in, made_is, state_in}
use Rattle.proto_journal_records.proofs.reading.read_second.Goals as goal

pub returns-in_default-clause-shape : goal.returns-in_default-clause-shape
returns-in_default-clause-shape c = λ r is told e.
    let h = c.in_ok-edit.ensures r.edit (edit_in r (value_view c.args.value.now) e) in
    rw c.in_default.is at h

pub returns-in_default-2-clause-shape : goal.returns-in_default-2-clause-shape
returns-in_default-2-clause-shape c = λ r is told e.
    let d = value_view c.args.value.now in
    let h = c.in_ok-parts.ensures r.state r.entry is (state_in Second r d e) (files_in Second r d e) in
    rw c.in_default-2.is at h

pub returns-clause-shape : goal.returns-clause-shape
returns-clause-shape c = λ r is told e.
    let d = value_view c.args.value.now in
    let h = c.in_ok-parts.ensures r.state r.entry is (state_in Second r d e) (files_in Second r d e) in
    let k : (c.in-Some-2.parts.0 ≡ r.state) × (c.in-Some-2.parts.1 ≡ r.entry) = rw c.in-Some-2.is at h in
    let t = c.in_ok-edit.ensures r.edit (edit_in r d e) in
    let edit : option_map asked c.in-Some.edit ≡ r.edit = rw c.in-Some.is at t in
    made_is c.new.result r c.in-Some-2.parts.0 c.in-Some-2.parts.1 (option_map asked c.in-Some.edit) c.new.ensures told k.0 k.1 edit
