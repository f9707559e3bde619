use Rattle.std.proofs.Common.{rules, ◌≡◌}
use Rattle.proto_journal_records.proofs.Behind.{behind_both}
use Rattle.proto_journal_records.proofs.matching.behind_string.Goals as goal

pub returns : goal.returns
returns c =
    let same : c.as_bytes.result.now ≡ c.args.text.now = search rules in
    let all = behind_both c.behind-rest.ensures (behind_both c.behind_escaped-rest.ensures c.behind.ensures) in
    rw same at all
