use Rattle.std.proofs.Common.{◌≡◌, ◌∙◌, sym, true}
use Rattle.std.proofs.lemmas.Result.{on_ok_weaker}
use Rattle.protoref_test_cases.specs.RowsHold.{row_files}
use Rattle.protoref_test_cases.proofs.SameFiles.{same_files}
use Rattle.protoref_test_cases.proofs.edited.expect_files.Goals as goal

pub returns : goal.returns
returns c =
    on_ok_weaker c.expect_texts.result
    (λ (holds : c.are_texts-holds.result ≡ true). same_files c.args.workspace.now (row_files c.args.files.now) (sym c.are_texts-holds.ensures ∙ holds))
    c.expect_texts.ensures
