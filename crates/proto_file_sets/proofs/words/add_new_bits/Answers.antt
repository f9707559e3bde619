use Rattle.std.proofs.Common.{◌/◌, ◌%◌, ◌<◌, length, get_or, not, ◌&&◌, ◌||◌, nat_eq, bit_and, bit_or, ap, ap₂, ◌∙◌, inl, inr, arith, w64, length-set}
use Rattle.std.specs.Int.{bit_at, bit_not}
use Rattle.std.proofs.lemmas.Bool.{cases_eq}
use Rattle.proto_file_sets.proofs.Bits.{new_bit}
use Rattle.proto_file_sets.proofs.FilesInWords.{bit_of_word, has_file-set_same, has_file-set_other}
use Rattle.proto_file_sets.proofs.words.add_new_bits.Goals as goal

pub loop-index-preserved : goal.loop-index-preserved
loop-index-preserved c =
    let words = c.loop-index.words in
    let j = c.loop-index.index in
    let seen = c.word_at.result in
    let before = c.word_at-in-loop-index.result in
    let word = bit_or (get_or words j 0) (bit_and seen (bit_not w64 before)) in
    let within : j < length words = omega (arith, c.loop-index-test.true, c.loop-index.invariant.count) in
    record {
      count = length-set words j word ∙ c.loop-index.invariant.count;
      done = λ file l. elim (cases_eq (file / 64) j) [
        | inl same ↦
            let was = bit_of_word words j file same ∙ c.loop-index.invariant.rest file (omega (arith, same)) in
            let is_seen = ap (λ w. nat_eq (bit_at w (file % 64)) 1) c.word_at.ensures ∙ bit_of_word c.args.seen.now j file same in
            let is_before = ap (λ w. nat_eq (bit_at w (file % 64)) 1) c.word_at-in-loop-index.ensures ∙ bit_of_word c.args.before.now j file same in
            has_file-set_same words j word within file same
            ∙ new_bit (get_or words j 0) seen before (file % 64) c.word_at-in-loop-index.type_inv (omega arith)
            ∙ ap₂ (λ x y. x || y) was (ap₂ (λ x y. x && not y) is_seen is_before)
        | inr apart ↦ has_file-set_other words j word within file apart ∙ c.loop-index.invariant.done file (omega (arith, l, apart))
      ];
      rest = λ file l. has_file-set_other words j word within file (λ e. omega (arith, l, e)) ∙ c.loop-index.invariant.rest file (omega (arith, l));
    }
