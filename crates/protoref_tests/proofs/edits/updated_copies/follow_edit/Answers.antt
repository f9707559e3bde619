use Rattle.protoref_tests.proofs.edits.updated_copies.follow_edit.Goals as goal

pub replace-requires-clause-link : goal.replace-requires-clause-link
replace-requires-clause-link g c = (c.args.files.now, c.requires.link, c.edit.ensures.same)

pub replace-answer-requires-clause-were : goal.replace-answer-requires-clause-were
replace-answer-requires-clause-were g c = (c.args.files.now, c.requires.descriptors, c.edit.ensures.same)
