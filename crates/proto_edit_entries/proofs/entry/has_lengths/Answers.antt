use Rattle.proto_edit_entries.proofs.EntryTests.{lengths_are, not_within}
use Rattle.proto_edit_entries.proofs.entry.has_lengths.Goals as goal

pub returns-then-lie_within : goal.returns-then-lie_within
returns-then-lie_within c = lengths_are c.args.splices.now c.args.before c.args.after c.old_len-old.result c.new_len-new.result c.old_len-old.ensures.value c.new_len-new.ensures.value (c.lie_within.ensures.0 c.if-lie_within.true)

pub returns-else-lie_within : goal.returns-else-lie_within
returns-else-lie_within c = not_within c.args.splices.now c.args.before c.args.after c.lie_within.result c.if-lie_within.false c.lie_within.ensures
