use Rattle.std.proofs.Common.{◌≡◌, ℕ, ◌<◌, ◌++◌, List, length, map, Some, sym, ap, subst, ◌∙◌, arith}
use Rattle.proto_tree.specs.File.{tree_of_file}
use Rattle.proto_files.specs.Faults.{fault_at}
use Rattle.proto_ast.specs.Numbers.{past}
use Rattle.proto_desc_numbers.specs.declared.flaw.Flaw.{Flaw}
use Rattle.proto_resolved.specs.Scenes.{IsSceneOf}
use Rattle.proto_desc.specs.Checked.{fault_of_flaw}
use Rattle.proto_desc.proofs.CheckedFiles.{flaws_at}
use Rattle.proto_all_faults.specs.Steps.{faults_before}
use Rattle.proto_all_faults.proofs.CheckLists.{file_turn, flaws_of_file}
use Rattle.proto_all_faults.proofs.checks.faults_by_file.Goals as goal

pub loop-file-preserved : goal.loop-file-preserved
loop-file-preserved c = λ reads are.
    (let files = c.args.files.now in
    let file = c.loop-file.file in
    let l : file < length files = omega (arith, c.loop-file-test.true, c.len-file-end.ensures.len) in
    let scene = c.index-scenes-place.result in
    let tree = tree_of_file c.tree-tree.result.now in
    let others = c.deref.result.now in
    let found = map fault_at c.loop-file.found.items in
    let is = subst (IsSceneOf files file) (sym c.index-scenes-place.is) (c.requires.scenes.each file scene (omega (arith, l, c.requires.scenes.len))) in
    let decided = flaws_at files c.args.of_workspace.now file l c.requires.flaws c.index-of_workspace-place.result c.index-of_workspace-place.is others c.deref.ensures.value in
    let flaws = flaws_of_file files file scene tree others reads are l is c.tree-tree.ensures decided in
    file_turn (Some past) files reads are file found (map fault_at c.add_flaws.new.found.items)
    (c.in_ok-add_flaws.ensures reads are ∙ ap (λ (fs : List Flaw). found ++ map (fault_of_flaw files reads file) fs) (c.deref-in-loop-file.ensures.value ∙ c.in_ok-flaws.ensures ∙ flaws))
    (c.loop-file.invariant reads are))

pub returns : goal.returns
returns c = λ reads are.
    (let all : c.loop-file.file ≡ length c.args.files.now = omega (arith, c.loop-file-test.false, c.len-file-end.ensures.len, c.loop-file.auto.file-end) in
    c.loop-file.invariant reads are ∙ ap (λ (n : ℕ). faults_before (Some past) c.args.files.now reads n) all)
