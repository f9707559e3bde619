use Rattle.std.proofs.Common.{◌≡◌, ◌++◌, [], List, map, rules}
use Rattle.proto_base.proofs.Common.{IfOk-weaker}
use Rattle.proto_desc_extensions.specs.Common.{HasSeen, Told, again, outside_ranges, told_by}
use Rattle.proto_desc_extensions.proofs.flaws.own_flaws.Goals as goal

pub returns : goal.returns
returns c =
    let ts : List Told = map told_by c.args.extensions.now in
    IfOk-weaker c.flaws_of.result (λ found. (before : List Told) → HasSeen c.new-seen.result before → found.items ≡ outside_ranges ts ++ again before ts) (λ found. found.items ≡ outside_ranges ts ++ again [] ts)
    (λ found flaws. flaws [] (λ k. search rules)) c.flaws_of.ensures.flaws
