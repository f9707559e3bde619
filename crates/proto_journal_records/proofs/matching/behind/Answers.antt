use Rattle.proto_base.proofs.Common.{Decides-eqb, strip_prefix_is}
use Rattle.proto_journal_records.proofs.Behind.{stripped}
use Rattle.proto_journal_records.proofs.matching.behind.Goals as goal

pub returns : goal.returns
returns c =
    let bytes = c.in_ok-bytes.field-0 in
    stripped c.args.text.now c.args.bytes bytes c.strip_prefix.result c.in_ok-bytes.was (strip_prefix_is Decides-eqb bytes.now c.args.text.now c.strip_prefix.result c.strip_prefix.ensures.cases)
