use Rattle.proto_journal.proofs.Grown.{shortens}
use Rattle.proto_journal.proofs.undoing.shortened_journal.Goals as goal

pub returns : goal.returns
returns c = shortens c.args.journal.now c.without_last.result.now c.journals_grow_and_shrink.ensures.less c.without_last.ensures
