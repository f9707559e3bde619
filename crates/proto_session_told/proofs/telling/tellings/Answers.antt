use Rattle.std.proofs.Common.{◌≡◌, ℕ, ◌<◌, length, map, take, drop, sym, ap, ◌∙◌, arith, rules}
use Rattle.std.proofs.lemmas.List.{drop-map, length-drop, take-map}
use Rattle.proto_base.proofs.Common.{length-map, map_push, nil_from_length}
use Rattle.proto_session_files.specs.Views.{view_at}
use Rattle.proto_session_told.specs.Shown.{shown_of}
use Rattle.proto_session_told.specs.Telling.{told_of}
use Rattle.proto_session_told.proofs.ByFile.{all_told, has_first, more_told, none_left, some_left}
use Rattle.proto_session_told.proofs.telling.tellings.Goals as goal

pub loop-rest-preserved : goal.loop-rest-preserved
loop-rest-preserved c =
    let xs = c.loop-rest.rest.now in
    let n = c.run_len.result in
    let long = c.run_len.ensures.len in
    let front : c.split_at.result.0.now ≡ take n xs = search rules in
    let back : c.split_at.result.1.now ≡ drop n xs = search rules in
    let len : length (map shown_of xs) ≡ length xs = length-map xs shown_of in
    let left : 0 < length xs = some_left c.is_empty.result (length xs) c.is_empty.ensures c.loop-rest-test.true in
    more_told (view_at c.args.view.now) (map shown_of c.args.shown.now) (map shown_of xs) (map shown_of c.split_at.result.0.now) (map shown_of c.split_at.result.1.now) (map told_of c.loop-rest.told.items) _ _ (omega arith)
    (ap (map shown_of) front ∙ sym (take-map shown_of n xs) ∙ ap (λ (k : ℕ). take k (map shown_of xs)) long)
    (ap (map shown_of) back ∙ sym (drop-map shown_of n xs) ∙ ap (λ (k : ℕ). drop k (map shown_of xs)) long)
    c.in_ok-telling.ensures
    (ap (map told_of) c.in_ok-push.ensures.items ∙ map_push told_of c.loop-rest.told.items _)
    c.loop-rest.invariant

pub loop-rest-smaller : goal.loop-rest-smaller
loop-rest-smaller c =
    let xs = c.loop-rest.rest.now in
    let n = c.run_len.result in
    let long = c.run_len.ensures.len in
    let back : c.split_at.result.1.now ≡ drop n xs = search rules in
    let len : length (map shown_of xs) ≡ length xs = length-map xs shown_of in
    let left : 0 < length xs = some_left c.is_empty.result (length xs) c.is_empty.ensures c.loop-rest-test.true in
    let one = has_first (map shown_of xs) (omega arith) in
    omega (arith, ap length back, length-drop n xs, long, one)

pub returns : goal.returns
returns c =
    let xs = c.loop-rest.rest.now in
    let none : length xs ≡ 0 = none_left c.is_empty.result (length xs) c.is_empty.ensures c.loop-rest-test.false in
    all_told (view_at c.args.view.now) (map shown_of c.args.shown.now) (map shown_of xs) (map told_of c.loop-rest.told.items) (ap (map shown_of) (nil_from_length xs none)) c.loop-rest.invariant
