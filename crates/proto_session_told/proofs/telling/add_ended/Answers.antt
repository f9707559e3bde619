use Rattle.std.proofs.Common.{◌≡◌, ◌≤◌, ◌++◌, [], ◌∷◌, is_some, length, map, string_bytes, sym, ap, ◌∙◌, rules}
use Rattle.proto_base.proofs.Turns.{seen_more}
use Rattle.proto_serving.specs.Serving.{texts}
use Rattle.proto_session_told.specs.Telling.{cleared, end_of, is_shown_at, told_of}
use Rattle.proto_session_told.proofs.News.{is_cleared, is_shown_still}
use Rattle.proto_session_told.proofs.telling.add_ended.Goals as goal
use Rattle.proto_session_told.proofs.telling.add_ended.Goals.{in-Some, in-None+in_ok-cleared-in-None+in_ok-push-in-None}

pub loop-told-preserved : goal.loop-told-preserved
loop-told-preserved c =
    let all = map told_of c.args.new.now in
    let x = c.told-item.result in
    let found = c.loop-told.messages.items in
    let next = c.match-next_shown.messages.items in
    let said : is_some c.next_shown.result ≡ is_shown_at all (string_bytes x.uri) = c.next_shown.ensures.same ∙ ap (is_shown_at all) c.as_str.ensures.value in
    let place : c.match-next_shown.from ≤ length c.args.new.now = search rules in
    let more : texts next ≡ texts found ++ end_of all (told_of x) =
    elim c.match-next_shown.branch [
      | in-Some w ↦
          let same : next ≡ found = search rules in
          is_shown_still all (told_of x) found next (sym said ∙ ap is_some w.in-Some.is) same
      | in-None+in_ok-cleared-in-None+in_ok-push-in-None w ↦
          let message = w.in_ok-cleared-in-None.field-0 in
          let pushed : next ≡ found ++ message ∷ [] = search rules in
          is_cleared all (told_of x) found next message (sym said ∙ ap is_some w.in-None.is) pushed (w.in_ok-cleared-in-None.ensures ∙ ap cleared w.as_str-in-None.ensures.value)
    ] in
    (place, seen_more (end_of all) told_of c.args.old.now c.loop-told.told-index x x (texts c.args.messages.now.items) (texts found) (texts next) c.loop-told-test.true c.told-item.is more c.loop-told.invariant.1)
