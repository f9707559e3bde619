use Rattle.std.proofs.Common.{◌<◌, All, refl, sym, arith, subst}
use Rattle.proto_names_imports.specs.declared.import.FileImport.{FileImport}
use Rattle.proto_edit_captures.specs.Overtaking.{IsFirstOvertaken}
use Rattle.proto_edit_rules.specs.AddImport.{with_added}
use Rattle.proto_edit_statements.proofs.Additions.{free_7, refused_7}
use Rattle.proto_edit_statements.proofs.MoreOrLess.{place_within}
use Rattle.proto_edit_statements.proofs.SeenMore.{sees_added}
use Rattle.proto_edit_statements.proofs.adding.check_captured.Goals as goal

pub returns-in-None-clause-free : goal.returns-in-None-clause-free
returns-in-None-clause-free c =
    let files = c.args.linked.now.files in
    let reads = c.files-files.ensures.clean.reads in
    let are = c.files-files.ensures.clean.read in
    let file = c.args.paths.from in
    let v = with_added files reads file c.args.paths.to in
    let within = place_within files c.args.paths.file.now file c.requires.file in
    let sees = sees_added files reads are c.args.imports.now c.requires.imports file c.args.paths.to c.in_ok-seen.seen c.in_ok-seen.ensures in
    let first = c.in_ok-first_overtaken.ensures reads are v (record { imports = refl; seen = sees }) in
    free_7 files reads are c.args.paths.file.now c.args.paths.path.now file c.args.paths.to c.requires.file c.requires.to within (subst (IsFirstOvertaken files reads v file) c.in-None.is first)

pub returns-clause-err : goal.returns-clause-err
returns-clause-err c =
    let files = c.args.linked.now.files in
    let reads = c.files-files.ensures.clean.reads in
    let are = c.files-files.ensures.clean.read in
    let file = c.args.paths.from in
    let v = with_added files reads file c.args.paths.to in
    let within = place_within files c.args.paths.file.now file c.requires.file in
    let sees = sees_added files reads are c.args.imports.now c.requires.imports file c.args.paths.to c.in_ok-seen.seen c.in_ok-seen.ensures in
    let first = c.in_ok-first_overtaken.ensures reads are v (record { imports = refl; seen = sees }) in
    refused_7 files reads are c.args.paths.file.now c.args.paths.path.now file c.args.paths.to c.requires.file c.requires.to within c.in-Some.token (subst (IsFirstOvertaken files reads v file) c.in-Some.is first)
    c.in_ok-captured_refusal-in-Some.field-0 (rw c.files-files.ensures.files at c.in_ok-captured_refusal-in-Some.ensures)

pub seen_with-requires-clause-within : goal.seen_with-requires-clause-within
seen_with-requires-clause-within c =
    subst (λ n. All (λ v. All (λ (i : FileImport). i.to < n) v.items) c.args.imports.now) (sym c.requires.imports.len) c.requires.imports.within

pub seen_with-requires-clause-file : goal.seen_with-requires-clause-file
seen_with-requires-clause-file c =
    let within = place_within c.args.linked.now.files c.args.paths.file.now c.args.paths.from c.requires.file in
    let count = c.requires.imports.len in
    omega (arith, within, count)

pub seen_with-requires-clause-to : goal.seen_with-requires-clause-to
seen_with-requires-clause-to c =
    let within = place_within c.args.linked.now.files c.args.paths.path.now c.args.paths.to c.requires.to in
    let count = c.requires.imports.len in
    omega (arith, within, count)
