use Rattle.std.proofs.Common.{◌≡◌, length, drop}
use Rattle.std.specs.HashSet.{contains_text}
use Rattle.proto_text.specs.Texts.{word_at}
use Rattle.proto_edit_captures.specs.Common.{first_passing, overtakes_by}
use Rattle.proto_edit_captures.proofs.overtaking.first_in_list.Given as goal

abbrev pub invariant-loop-used : goal.invariant-loop-used
invariant-loop-used l =
    first_passing (overtakes_by l.seen.link.now l.seen.files.now (contains_text l.seen.packages) (word_at l.declared.words.now) l.listing.declared.items) l.listing.used.items l.fn.meant
    ≡ first_passing (overtakes_by l.seen.link.now l.seen.files.now (contains_text l.seen.packages) (word_at l.declared.words.now) l.listing.declared.items) (drop (length l.yielded) l.listing.used.items) (drop (length l.yielded) l.fn.meant)
