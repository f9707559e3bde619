use Rattle.proto_edit_entries.proofs.EntryTests.{told_apart, no_lengths}
use Rattle.proto_edit_entries.proofs.entry.is_told_apart.Goals as goal

pub returns-then-have_same_lengths : goal.returns-then-have_same_lengths
returns-then-have_same_lengths c = told_apart c.args.splices.now c.are_same.result (c.have_same_lengths.ensures.0 c.if-have_same_lengths.true) c.are_same.ensures

pub returns-else-have_same_lengths : goal.returns-else-have_same_lengths
returns-else-have_same_lengths c = no_lengths c.args.splices.now c.have_same_lengths.result c.if-have_same_lengths.false c.have_same_lengths.ensures
