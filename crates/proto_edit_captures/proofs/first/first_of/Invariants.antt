use Rattle.std.proofs.Common.{◌≡◌, length, drop}
use Rattle.proto_text.specs.Texts.{word_at}
use Rattle.proto_edit_captures.specs.Common.{captures_by, first_passing, texts_of}
use Rattle.proto_edit_captures.proofs.first.first_of.Given as goal

abbrev pub invariant-loop-used : goal.invariant-loop-used
invariant-loop-used l =
    first_passing (captures_by l.after.link.now l.after.file (texts_of l.after.names.now) (word_at l.declared.words.now) l.listing.declared.items) l.listing.used.items l.fn.meant
    ≡ first_passing (captures_by l.after.link.now l.after.file (texts_of l.after.names.now) (word_at l.declared.words.now) l.listing.declared.items) (drop (length l.yielded) l.listing.used.items) (drop (length l.yielded) l.fn.meant)
