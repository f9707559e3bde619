use Rattle.std.proofs.Common.{◌≡◌, ◌*◌, ◌/◌, ◌%◌, ◌^◌, ◌-◌, get_or, set, bit_and, sym, subst, arith}
use Rattle.std.proofs.lemmas.Nat.{one_shl}
use Rattle.proto_file_sets.specs.Words.{AreWords, has_file}
use Rattle.proto_file_sets.proofs.FilesInWords.{none_spare, spare_cleared, files_kept}
use Rattle.proto_file_sets.proofs.words.clear_spare.Goals as goal

pub returns-then-last-words-clause-words : goal.returns-then-last-words-clause-words
returns-then-last-words-clause-words c =
    let count = c.args.file_count in
    let words = c.args.words.now in
    let mask : 1 * 2 ^ (count % 64) % 2 ^ 64 ≡ 2 ^ (count % 64) = one_shl (count % 64) 64 (omega arith) in
    subst (λ m. AreWords count (set words (count / 64) (bit_and (get_or words (count / 64) 0) (m - 1)))) (sym mask) (spare_cleared count words c.requires c.if-last-words.true)

pub returns-then-last-words-clause-files : goal.returns-then-last-words-clause-files
returns-then-last-words-clause-files c = λ file l.
    (let count = c.args.file_count in
    let words = c.args.words.now in
    let mask : 1 * 2 ^ (count % 64) % 2 ^ 64 ≡ 2 ^ (count % 64) = one_shl (count % 64) 64 (omega arith) in
    subst (λ m. has_file (set words (count / 64) (bit_and (get_or words (count / 64) 0) (m - 1))) file ≡ has_file words file) (sym mask) (files_kept count words c.if-last-words.true file l))

pub returns-else-last-words-clause-words : goal.returns-else-last-words-clause-words
returns-else-last-words-clause-words c = none_spare c.args.file_count c.args.words.now c.requires c.if-last-words.false
