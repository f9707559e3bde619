use Rattle.std.proofs.Common.{◌≡◌, sym, ◌∙◌}
use Rattle.json.specs.Value.{value_view}
use Rattle.proto_edit_entries.specs.EditsAsked.{asked}
use Rattle.proto_journal_records.proofs.EditData.{none_in, some_in, some_told, told_is}
use Rattle.proto_journal_records.proofs.reading.read_edit.Goals as goal

pub returns-then-is_null : goal.returns-then-is_null
returns-then-is_null c = λ o h.
    let d = value_view c.in-Some.told.now in
    none_in o d (told_is (value_view c.args.value.now) d o c.in-Some.ensures h) (sym c.is_null.ensures ∙ c.if-is_null.true)

pub returns-in_default-2 : goal.returns-in_default-2
returns-in_default-2 c = λ o h.
    let d = value_view c.in-Some.told.now in
    let s = some_in o d (told_is (value_view c.args.value.now) d o c.in-Some.ensures h) (sym c.is_null.ensures ∙ c.if-is_null.false) in
    let k = c.in_ok-edit.ensures s.0 s.2 in
    rw c.in_default-2.is at k

pub returns : goal.returns
returns c = λ o h.
    let d = value_view c.in-Some.told.now in
    let s = some_in o d (told_is (value_view c.args.value.now) d o c.in-Some.ensures h) (sym c.is_null.ensures ∙ c.if-is_null.false) in
    let k = c.in_ok-edit.ensures s.0 s.2 in
    let same : asked c.in-Some-2.edit ≡ s.0 = rw c.in-Some-2.is at k in
    some_told o s.0 c.in-Some-2.edit s.1 same
