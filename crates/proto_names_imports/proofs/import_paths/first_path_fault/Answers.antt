use Rattle.std.proofs.Common.{◌<◌, [], get_or, map, option_map, sym, ◌∙◌, ap, subst, arith}
use Rattle.std.proofs.lemmas.List.{get_or-map, length-map}
use Rattle.proto_names_imports.specs.Common.{asked_by, fault_of, IsFirst, PathFault}
use Rattle.proto_names_imports.proofs.FilesAsked.{path_in, path_some, path_more}
use Rattle.proto_names_imports.proofs.import_paths.first_path_fault.Goals as goal

pub returns-in-Some : goal.returns-in-Some
returns-in-Some c = λ paths index. (
    let fs = map (λ v. v.items) c.args.files.now in
    let n = length-map c.args.files.now (λ v. v.items) in
    let e = c.deref.ensures.value ∙ ap (λ v. v.items) c.index-files-file.is ∙ sym (get_or-map (λ v. v.items) c.args.files.now c.loop-file.file c.index-files-file.result [] c.loop-file-test.true) in
    let h = subst (λ ws. IsFirst (PathFault paths (map (asked_by c.loop-file.file) ws)) (option_map fault_of c.in_ok-bad.field-0)) e (c.in_ok-bad.ensures paths index) in
    let s = subst (λ o. IsFirst (PathFault paths (map (asked_by c.loop-file.file) (get_or fs c.loop-file.file []))) (option_map fault_of o)) c.in-Some.is h in
    path_some paths fs c.loop-file.file (fault_of c.in-Some.bad) (omega (arith, c.loop-file-test.true, n)) (c.loop-file.invariant paths index) s)

pub loop-file-preserved : goal.loop-file-preserved
loop-file-preserved c = λ paths index. (
    let fs = map (λ v. v.items) c.args.files.now in
    let e = c.deref.ensures.value ∙ ap (λ v. v.items) c.index-files-file.is ∙ sym (get_or-map (λ v. v.items) c.args.files.now c.loop-file.file c.index-files-file.result [] c.loop-file-test.true) in
    let h = subst (λ ws. IsFirst (PathFault paths (map (asked_by c.loop-file.file) ws)) (option_map fault_of c.in_ok-bad.field-0)) e (c.in_ok-bad.ensures paths index) in
    let s = subst (λ o. IsFirst (PathFault paths (map (asked_by c.loop-file.file) (get_or fs c.loop-file.file []))) (option_map fault_of o)) c.in_default.is h in
    path_more paths fs c.loop-file.file (c.loop-file.invariant paths index) s)

pub returns : goal.returns
returns c = λ paths index f p. (
    let fs = map (λ v. v.items) c.args.files.now in
    let n = length-map c.args.files.now (λ v. v.items) in
    let l : f.place.file < c.loop-file.file = let q = (path_in paths fs p).0 in omega (arith, q, n, c.loop-file-test.false) in
    c.loop-file.invariant paths index f p l)
