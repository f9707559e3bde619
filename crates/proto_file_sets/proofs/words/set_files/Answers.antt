use Rattle.std.proofs.Common.{◌≡◌, ◌*◌, ◌++◌, length, filter, ap, ◌∙◌, arith}
use Rattle.std.specs.List.{range_with_len}
use Rattle.proto_file_sets.specs.Words.{has_file}
use Rattle.proto_file_sets.proofs.FileLists.{word_more}
use Rattle.proto_file_sets.proofs.words.set_files.Goals as goal

pub loop-index-preserved : goal.loop-index-preserved
loop-index-preserved c =
    let p = has_file c.args.words.now in
    let j = c.loop-index.index in
    record {
      files = c.in_ok-push_files.ensures ∙ ap (λ ns. ns ++ filter p (range_with_len (64 * j) 64)) c.loop-index.invariant.files ∙ word_more p j;
      upto = omega (arith, c.loop-index-test.true);
    }

pub returns : goal.returns
returns c =
    let full : c.loop-index.index ≡ length c.args.words.now = omega (arith, c.loop-index-test.false, c.loop-index.invariant.upto) in
    c.loop-index.invariant.files ∙ ap (λ n. filter (has_file c.args.words.now) (range_with_len 0 (64 * n))) full
