use Rattle.proto_edit_rename.proofs.changes.changes.Goals as goal

pub returns-clause-ok : goal.returns-clause-ok
returns-clause-ok c = rw c.in_ok-scope.ensures.files at (rw c.in_ok-scope.ensures.target at c.changes_with.ensures.ok)
