use Rattle.proto_edit_entries.proofs.DottedTest.{is_dotted_by_test}
use Rattle.proto_edit_entries.proofs.edit.is_dotted.Goals as goal

pub returns : goal.returns
returns c = is_dotted_by_test c.args.name.now c.has_words.result c.has_words.ensures
