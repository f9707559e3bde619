use Rattle.std.proofs.Common.{◌≡◌, [], ◌∷◌, ◌++◌, length, map, length-append, ap, ◌∙◌, arith}
use Rattle.proto_base.proofs.Common.{map-append}
use Rattle.proto_files.proofs.Common.{each_pushed}
use Rattle.proto_desc_affected.specs.Checked.{IsKeptOf}
use Rattle.proto_desc_affected.specs.Common.{file_summary_of, file_summaries_of}
use Rattle.proto_desc_affected.proofs.file_summary.file_summaries.Goals as goal

pub loop-file-preserved : goal.loop-file-preserved
loop-file-preserved c =
    let was = file_summaries_of c.loop-file.kept.items in
    let one = file_summary_of c.in_ok-new.field-0 in
    let more : file_summaries_of c.push.new.self.items ≡ was ++ one ∷ [] = ap (map file_summary_of) c.in_ok-push.ensures.items ∙ map-append file_summary_of c.loop-file.kept.items (c.in_ok-new.field-0 ∷ []) in
    record {
      len = omega (arith, ap length more, length-append was (one ∷ []), c.loop-file.invariant.len);
      each = each_pushed (IsKeptOf c.args.linked.now.files) was (file_summaries_of c.push.new.self.items) one c.loop-file.file more c.loop-file.invariant.len c.loop-file.invariant.each c.in_ok-new.ensures;
    }

pub returns : goal.returns
returns c = record { len = omega (arith, c.loop-file.invariant.len, c.loop-file-test.false, c.file_count-file-end.ensures.len, c.loop-file.auto.file-end); each = c.loop-file.invariant.each }
