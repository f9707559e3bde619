use Rattle.std.proofs.Common.{◌≡◌, None, sym, subst}
use Rattle.json.specs.Value.{value_view}
use Rattle.proto_journal_records.specs.Common.{First, IsNoted}
use Rattle.proto_journal_records.proofs.EditData.{files_in, made_is, state_in}
use Rattle.proto_journal_records.proofs.reading.read_first.Goals as goal

pub returns-in_default-clause-shape : goal.returns-in_default-clause-shape
returns-in_default-clause-shape c = λ r is told e.
    let d = value_view c.args.value.now in
    let h = c.in_ok-parts.ensures r.state r.entry is (state_in First r d e) (files_in First r d e) in
    rw c.in_default.is at h

pub returns-clause-shape : goal.returns-clause-shape
returns-clause-shape c = λ r is told e.
    let d = value_view c.args.value.now in
    let h = c.in_ok-parts.ensures r.state r.entry is (state_in First r d e) (files_in First r d e) in
    let k : (c.in-Some.parts.0 ≡ r.state) × (c.in-Some.parts.1 ≡ r.entry) = rw c.in-Some.is at h in
    made_is c.new.result r c.in-Some.parts.0 c.in-Some.parts.1 None c.new.ensures (subst IsNoted (sym told) tt) k.0 k.1 (sym told)
