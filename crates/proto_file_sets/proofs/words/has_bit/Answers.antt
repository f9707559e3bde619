use Rattle.std.proofs.Common.{nat_eq, ap, ◌%◌, ◌∙◌, sym}
use Rattle.std.specs.Int.{bit_at}
use Rattle.std.proofs.lemmas.Nat.Bits.{shr_and_one}
use Rattle.proto_file_sets.proofs.FilesInWords.{has_file_is}
use Rattle.proto_file_sets.proofs.words.has_bit.Goals as goal

pub returns : goal.returns
returns c =
    ap (λ b. nat_eq b 1) (shr_and_one c.word_at.result (c.args.file % 64) ∙ ap (λ w. bit_at w (c.args.file % 64)) c.word_at.ensures)
    ∙ sym (has_file_is c.args.words.now c.args.file)
