use Rattle.std.proofs.Common.{◌≡◌, ◌<◌, ◌≤◌, get_or, length, rules}
use Rattle.proto_session.proofs.ChangedSessions.{same_all, same_more}
use Rattle.proto_session.proofs.notifying.are_same.Goals as goal

pub loop-place-preserved : goal.loop-place-preserved
loop-place-preserved c =
    let xs = c.args.files.now in
    let ys = c.args.others.now in
    let i = c.loop-place.place in
    let x = c.index-files-place.result in
    let y = c.index-others-place.result in
    let l : i < length xs = search rules in
    let m : i < length ys = search rules in
    let at : x ≡ get_or xs i x = search rules in
    let there : y ≡ get_or ys i y = search rules in
    same_more xs ys i x y l m at there c.loop-place.invariant (c.is_same.ensures c.if-not-is_same.false)

pub returns : goal.returns
returns c = λ yes_.
    (let l : length c.args.files.now ≤ c.loop-place.place = search rules in
    let m : length c.args.others.now ≤ c.loop-place.place = search rules in
    same_all c.args.files.now c.args.others.now c.loop-place.place l m c.loop-place.invariant)
