use Rattle.std.proofs.Common.{◌≡◌, length, ap, sym, ◌∙◌}
use Rattle.std.specs.Int.{div_ceil}
use Rattle.std.proofs.lemmas.List.{with_items_is, length-replicate}
use Rattle.proto_file_sets.specs.Words.{has_file, members}
use Rattle.proto_file_sets.proofs.FilesInWords.{members-all}
use Rattle.proto_file_sets.proofs.FileSet.all.Goals as goal

pub returns : goal.returns
returns c =
    let words = c.in_ok-words.words in
    let count = c.args.file_count in
    let new = c.clear_spare.new.words in
    let long : length new ≡ words.len =
    c.clear_spare.ensures.words.count ∙ sym (ap length c.in_ok-words.ensures ∙ length-replicate (div_ceil count 64) 18446744073709551615) ∙ sym words.ok.0
    in
    ap (members count) (with_items_is words new long)
    ∙ members-all count new (λ file l. c.clear_spare.ensures.files file l ∙ ap (λ ws. has_file ws file) (c.deref_mut.ensures.value ∙ c.in_ok-words.ensures))
