use Rattle.std.proofs.Common.{sym, subst}
use Rattle.proto_edit_rename.specs.Changes.{ArePlacesIn}
use Rattle.proto_edit_rename.proofs.Placed.{changed_in, faulty_in}
use Rattle.proto_edit_rename.proofs.changes.change_in.Goals as goal

pub returns-clause-change : goal.returns-clause-change
returns-clause-change c =
    let are = subst (ArePlacesIn c.args.scope.now.files c.args.scope.now.target c.args.file) (sym c.deref.ensures.value) c.in_ok-places.ensures in
    changed_in c.args.scope.now.files c.args.scope.now.target c.args.file c.deref.result.now c.args.to.now are c.change_of_file.result (rw c.files.ensures at c.change_of_file.ensures.change)

pub returns-clause-fault : goal.returns-clause-fault
returns-clause-fault c =
    let are = subst (ArePlacesIn c.args.scope.now.files c.args.scope.now.target c.args.file) (sym c.deref.ensures.value) c.in_ok-places.ensures in
    faulty_in c.args.scope.now.files c.args.scope.now.target c.args.file c.deref.result.now c.args.to.now are c.change_of_file.result (rw c.files.ensures at c.change_of_file.ensures.fault)
