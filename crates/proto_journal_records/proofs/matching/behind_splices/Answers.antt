use Rattle.std.proofs.Common.{arith}
use Rattle.proto_text.specs.Splicing.{edit_of}
use Rattle.proto_journal_records.specs.RecordText.{splice_data}
use Rattle.proto_journal_records.proofs.Behind.{behind_both, behind_end, behind_item}
use Rattle.proto_journal_records.proofs.matching.behind_splices.Goals as goal

pub loop-splice-init : goal.loop-splice-init
loop-splice-init c = λ o more. behind_both c.behind-rest.ensures more

pub loop-splice-preserved : goal.loop-splice-preserved
loop-splice-preserved c = λ o more.
    let loop = c.loop-splice in
    loop.invariant o (behind_item edit_of splice_data c.args.splices.now loop.splice-index c.splice-item.result loop.is_later loop.rest c.behind_comma-rest.result c.behind_splice-rest.result o
    c.loop-splice-test.true c.splice-item.is c.behind_comma-rest.ensures c.behind_splice-rest.ensures more)

pub returns : goal.returns
returns c =
    let loop = c.loop-splice in
    loop.invariant c.behind.result (behind_end edit_of splice_data c.args.splices.now loop.splice-index loop.is_later loop.rest c.behind.result (omega (arith, c.loop-splice-test.false)) c.behind.ensures)
