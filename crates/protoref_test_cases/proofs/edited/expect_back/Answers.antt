use Rattle.std.proofs.Common.{◌≡◌, ◌≢◌, List, [], map, subst}
use Rattle.std.proofs.lemmas.Result.{on_ok_weaker}
use Rattle.proto_files.specs.GivenFiles.{FileOf}
use Rattle.proto_edit_entries.specs.Entries.{ChangeOf}
use Rattle.protoref_test_cases.specs.RowsHold.{UndosLead, row_files, undo_of}
use Rattle.protoref_test_cases.proofs.edited.expect_back.Goals as goal

pub returns : goal.returns
returns c =
    let before = c.args.edited.now in
    let after = c.undo_each.new.workspace in
    let us = map undo_of c.args.undos.now in
    on_ok_weaker c.expect_first.result
    (λ (same : after ≡ row_files c.args.files.now) (some : us ≢ []).
    subst (λ (z : List FileOf). UndosLead before.entries.items before.workspace us z) same
    (subst (λ (z : List (List ChangeOf)). UndosLead z before.workspace us after) c.as_slice-entries.ensures.value (c.in_ok-undo_each.ensures some)))
    c.expect_first.ensures
