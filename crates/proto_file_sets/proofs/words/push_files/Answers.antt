use Rattle.std.proofs.Common.{◌≡◌, ◌+◌, ◌*◌, ◌++◌, ◌∷◌, [], filter, ap, sym, ◌∙◌, arith}
use Rattle.std.specs.List.{range_with_len}
use Rattle.std.proofs.lemmas.List.{append-nil}
use Rattle.proto_file_sets.specs.Words.{has_file}
use Rattle.proto_file_sets.proofs.FileLists.{no_files, number_more}
use Rattle.proto_file_sets.proofs.words.push_files.Goals as goal

pub returns-then-word_at-eq0 : goal.returns-then-word_at-eq0
returns-then-word_at-eq0 c =
    let files = c.args.files.now.items in
    sym (append-nil files) ∙ ap (λ ns. files ++ ns) (sym (no_files c.args.words.now c.args.index (sym c.word_at.ensures ∙ c.if-word_at-eq0.true)))

pub loop-bit-preserved : goal.loop-bit-preserved
loop-bit-preserved c =
    let p = has_file c.args.words.now in
    let first = 64 * c.args.index in
    let bit = c.loop-bit.bit in
    record {
      files = c.in_ok-push_file.ensures ∙ ap (λ ns. ns ++ filter p ((first + bit) ∷ [])) c.loop-bit.invariant.files ∙ number_more p c.args.files.now.items first bit;
      upto = omega (arith, c.loop-bit-test.true);
    }

pub returns : goal.returns
returns c =
    let full : c.loop-bit.bit ≡ 64 = omega (arith, c.loop-bit-test.false, c.loop-bit.invariant.upto) in
    c.loop-bit.invariant.files ∙ ap (λ n. c.args.files.now.items ++ filter (has_file c.args.words.now) (range_with_len (64 * c.args.index) n)) full
