use Rattle.std.proofs.Common.{subst, sym, List}
use Rattle.proto_text.specs.Edits.{Edit, AreShort}
use Rattle.proto_edit_entries.proofs.entry.is_measured.Goals as goal

pub has_lengths-requires : goal.has_lengths-requires
has_lengths-requires c = subst (λ (es : List Edit). AreShort 0 0 es) (sym c.as_slice-splices.ensures.items) c.as_slice-splices.ensures.ordered
