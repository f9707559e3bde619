use Rattle.proto_edit_entries.proofs.DottedTest.{run_by_test}
use Rattle.proto_edit_entries.proofs.edit.is_run.Goals as goal

pub returns : goal.returns
returns c = run_by_test c.args.word.now c.is_word.result c.is_word.ensures
