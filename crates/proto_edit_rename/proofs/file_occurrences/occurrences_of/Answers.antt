use Rattle.proto_edit_rename.proofs.file_occurrences.occurrences_of.Goals as goal

pub returns : goal.returns
returns c = rw c.in_ok-scope.ensures.files at (rw c.in_ok-scope.ensures.target at c.all_occurrences.ensures)
