use Rattle.std.proofs.Common.{length, List, Bool, sym, ◌∙◌, ap, subst}
use Rattle.proto_edit_rules.specs.DropImport.{with_dropped}
use Rattle.proto_edit_statements.specs.Steps.{AreSeenIn}
use Rattle.proto_edit_statements.proofs.Drops.{free_15, needed_inside, refused_15}
use Rattle.proto_edit_statements.proofs.dropping.check_needed.Goals as goal

pub first_needed-requires : goal.first_needed-requires
first_needed-requires c =
    ap (λ (z : List (List Bool)). length z) c.deref.ensures.value ∙ (c.in_ok-seen.ensures c.files-files.ensures.clean.reads c.files-files.ensures.clean.read c.args.paths.path.now c.requires.to).0

pub returns-in-None-clause-free : goal.returns-in-None-clause-free
returns-in-None-clause-free c =
    let files = c.args.linked.now.files in
    let reads = c.files-files.ensures.clean.reads in
    let are = c.files-files.ensures.clean.read in
    let path = c.args.paths.path.now in
    let sees = subst (AreSeenIn files (with_dropped files reads c.args.paths.from path)) (sym c.deref.ensures.value) (c.in_ok-seen.ensures reads are path c.requires.to) in
    free_15 files reads are c.args.paths.file.now path c.args.paths.from c.requires.file c.requires.before (c.in-None.ensures reads are c.args.paths.from path sees)

pub needed_refusal-requires : goal.needed_refusal-requires
needed_refusal-requires c = rw c.files-files.ensures.files (
    let files = c.args.linked.now.files in
    let reads = c.files-files.ensures.clean.reads in
    let are = c.files-files.ensures.clean.read in
    let path = c.args.paths.path.now in
    let sees = subst (AreSeenIn files (with_dropped files reads c.args.paths.from path)) (sym c.deref.ensures.value) (c.in_ok-seen.ensures reads are path c.requires.to) in
    needed_inside files reads are c.args.paths.from path c.in-Some.reference (c.in-Some.ensures reads are c.args.paths.from path sees))

pub returns-clause-err : goal.returns-clause-err
returns-clause-err c =
    let files = c.args.linked.now.files in
    let reads = c.files-files.ensures.clean.reads in
    let are = c.files-files.ensures.clean.read in
    let path = c.args.paths.path.now in
    let sees = subst (AreSeenIn files (with_dropped files reads c.args.paths.from path)) (sym c.deref.ensures.value) (c.in_ok-seen.ensures reads are path c.requires.to) in
    refused_15 files reads are c.args.paths.file.now path c.args.paths.from c.requires.file c.requires.before c.in-Some.reference (c.in-Some.ensures reads are c.args.paths.from path sees) c.in_ok-needed_refusal-in-Some.field-0 (rw c.files-files.ensures.files at c.in_ok-needed_refusal-in-Some.ensures)
