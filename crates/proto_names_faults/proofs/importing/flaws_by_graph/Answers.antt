use Rattle.std.proofs.Common.{◌≡◌, ◌<◌, [], length, map, sym, ◌∙◌, ap, subst, arith}
use Rattle.proto_base.proofs.Common.{get_or-map, length-map}
use Rattle.proto_names_faults.specs.Common.{AreAdded, IsImportIn}
use Rattle.proto_names_faults.proofs.Added.{none_found}
use Rattle.proto_names_faults.proofs.ImportTurns.{all_files, file_turn, no_file_yet}
use Rattle.proto_names_faults.proofs.importing.flaws_by_graph.Goals as goal

pub loop-file-init : goal.loop-file-init
loop-file-init c = λ paths index. none_found _ _ c.new-found.ensures.items (no_file_yet paths c.args.graph.now.marks.now (map (λ v. v.items) c.args.files.now))

pub loop-file-preserved : goal.loop-file-preserved
loop-file-preserved c = λ paths index.
    (let fs = map (λ v. v.items) c.args.files.now in
    let marks = c.args.graph.now.marks.now in
    let file = c.loop-file.file in
    let l : file < length fs = omega (arith, c.loop-file-test.true, length-map c.args.files.now (λ v. v.items)) in
    let own = c.deref.ensures.value ∙ ap (λ v. v.items) c.index-files-file.is ∙ sym (get_or-map (λ v. v.items) c.args.files.now file c.index-files-file.result [] c.loop-file-test.true) in
    file_turn paths marks fs file l c.loop-file.found.items c.add_file_flaws.new.found.items (c.loop-file.invariant paths index)
    (subst (λ ws. AreAdded (IsImportIn paths marks file ws) c.loop-file.found.items c.add_file_flaws.new.found.items) own (c.in_ok-add_file_flaws.ensures paths index)))

pub returns : goal.returns
returns c = λ paths index exact.
    (let fs = map (λ v. v.items) c.args.files.now in
    let n : c.loop-file.file ≡ length fs = omega (arith, c.loop-file-test.false, c.loop-file.auto.file-end, length-map c.args.files.now (λ v. v.items)) in
    all_files paths c.args.graph.now.marks.now fs exact c.loop-file.file n c.loop-file.found.items (c.loop-file.invariant paths index))
