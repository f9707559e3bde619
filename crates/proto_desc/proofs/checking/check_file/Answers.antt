use Rattle.std.proofs.Common.{◌++◌, Some, None, subst, Contains}
use Rattle.proto_tree.specs.File.{tree_of_file}
use Rattle.proto_desc_checks.specs.FileFlaws.{file_flaws}
use Rattle.proto_desc_numbers.specs.Flaws.{IsLeastOfFlaws}
use Rattle.proto_desc.proofs.CheckedFiles.{file_error, least_of_file}
use Rattle.proto_desc.proofs.checking.check_file.Goals as goal

pub returns-in-Some-clause-fault : goal.returns-in-Some-clause-fault
returns-in-Some-clause-fault c =
    let tree = tree_of_file c.tree.result.now in
    file_error c.args.files.now c.args.file c.in-Some.flaw c.fault.result c.fault.ensures
    (λ reads are. least_of_file c.args.files.now c.args.file c.requires.file c.args.scene.now c.requires.scene tree c.tree.ensures reads are c.args.of_workspace.now c.requires.flaws (Some c.in-Some.flaw)
    (subst (IsLeastOfFlaws (Contains (file_flaws c.args.scene.now tree ++ c.args.of_workspace.now))) c.in-Some.is c.in_ok-flaw.ensures))

pub returns-in-None-clause-clean : goal.returns-in-None-clause-clean
returns-in-None-clause-clean c = λ reads are.
    (let tree = tree_of_file c.tree.result.now in
    least_of_file c.args.files.now c.args.file c.requires.file c.args.scene.now c.requires.scene tree c.tree.ensures reads are c.args.of_workspace.now c.requires.flaws None
    (subst (IsLeastOfFlaws (Contains (file_flaws c.args.scene.now tree ++ c.args.of_workspace.now))) c.in-None.is c.in_ok-flaw.ensures))
