use Rattle.std.proofs.Common.{◌≤◌, length, map, arith}
use Rattle.proto_edit_entries.specs.Entries.{change_of}
use Rattle.proto_edit_entries.proofs.TextPlaces.{all_changed, changed_next, nothing_at, texts_changed}
use Rattle.proto_edit_entries.proofs.putting.changed_texts.Goals as goal

pub returns-in_default : goal.returns-in_default
returns-in_default c =
    nothing_at c.args.files.now c.args.changes.now c.loop-change.change-index c.change-item.result c.loop-change-test.true c.change-item.is (rw c.in_default.is at c.in_ok-place.ensures)

pub loop-change-preserved : goal.loop-change-preserved
loop-change-preserved c =
    changed_next c.args.files.now c.args.changes.now c.loop-change.change-index c.change-item.result c.loop-change.places.items c.push.new.self.items c.in-Some.place c.loop-change.texts.items c.push-in-loop-change.new.self.items c.in-Some.text c.loop-change-test.true c.change-item.is c.loop-change.invariant
    (rw c.in-Some.is at c.in_ok-place.ensures) c.in_ok-push.ensures.items c.in_ok-push-2.ensures.items

pub returns : goal.returns
returns c =
    let files = c.args.files.now in
    let changes = c.args.changes.now in
    let end : length changes ≤ c.loop-change.change-index = omega (arith, c.loop-change-test.false) in
    let ps = c.loop-change.places.items in
    let ts = map (λ t. t.items) c.loop-change.texts.items in
    texts_changed files (map change_of changes) ps ts c.len.ensures.workspace.ordered c.requires.rising (all_changed files changes c.loop-change.change-index ps ts end c.loop-change.invariant)
