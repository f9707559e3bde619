use Rattle.std.proofs.Common.{refl, subst}
use Rattle.proto_files.specs.GivenFiles.{file_at}
use Rattle.proto_edit_rules.specs.AddImport.{splice_of_addition}
use Rattle.proto_edit_statements.specs.Spliced.{IsChangeOfAddition}
use Rattle.proto_edit_statements.proofs.Additions.{free_16, refused_16}
use Rattle.proto_edit_statements.proofs.Spliced.{changes_are, not_long}
use Rattle.proto_edit_statements.proofs.adding.changes_of_addition.Goals as goal

pub returns-in_ok-only-in-Some-clause-ok : goal.returns-in_ok-only-in-Some-clause-ok
returns-in_ok-only-in-Some-clause-ok c =
    let files = c.args.files.now in
    let file = c.args.paths.from in
    let path = c.args.paths.path.now in
    let reads = c.are_read.ensures.0 in
    let are = c.are_read.ensures.1 in
    let e = splice_of_addition files reads file path in
    let spliced = subst (IsChangeOfAddition files reads file path) c.in-Some.is (c.in_ok-change.ensures reads are) in
    record {
      admissible = free_16 files reads are c.args.paths.file.now path file c.requires.file c.requires.before (not_long (file_at files file) e e c.in-Some.change refl spliced);
      changes = (reads, are, (file, c.requires.file, changes_are (file_at files file) e e c.in-Some.change c.in_ok-only-in-Some.field-0.items refl spliced c.in_ok-only-in-Some.ensures));
    }

pub returns-in-None-clause-err : goal.returns-in-None-clause-err
returns-in-None-clause-err c =
    let files = c.args.files.now in
    let file = c.args.paths.from in
    let path = c.args.paths.path.now in
    let reads = c.are_read.ensures.0 in
    let are = c.are_read.ensures.1 in
    refused_16 files reads are c.args.paths.file.now path file c.requires.file c.requires.before (subst (IsChangeOfAddition files reads file path) c.in-None.is (c.in_ok-change.ensures reads are))
