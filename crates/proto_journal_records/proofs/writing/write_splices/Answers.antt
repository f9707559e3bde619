use Rattle.std.proofs.Common.{List, ◌+◌, ap, arith, map, take, take_all}
use Rattle.proto_text.specs.declared.splice.Splice.{Splice}
use Rattle.proto_text.specs.Splicing.{edit_of, edits}
use Rattle.proto_journal_records.specs.RecordText.{splice_data}
use Rattle.proto_journal_records.proofs.DataTexts.{adds_array, adds_item, made_more}
use Rattle.proto_journal_records.proofs.writing.write_splices.Goals as goal

pub loop-splice-preserved : goal.loop-splice-preserved
loop-splice-preserved c =
    let i = c.loop-splice.splice-index in
    let ss = c.args.splices.now in
    adds_item c.args.writer.now c.loop-splice.writer c.write_splice.new.writer (map splice_data (edits (take i ss))) (map splice_data (edits (take (i + 1) ss))) (splice_data (edit_of c.splice-item.result))
    c.loop-splice.invariant c.in_ok-write_splice.ensures (made_more edit_of splice_data ss i c.splice-item.result c.loop-splice-test.true c.splice-item.is)

pub returns : goal.returns
returns c =
    let i = c.loop-splice.splice-index in
    let ss = c.args.splices.now in
    adds_array c.end_array.result c.args.writer.now c.loop-splice.writer c.end_array.new.self (map splice_data (edits (take i ss))) (map splice_data (edits ss))
    c.loop-splice.invariant (ap (λ (l : List Splice). map splice_data (edits l)) (take_all i ss (omega (arith, c.loop-splice-test.false)))) c.end_array.ensures
