use Rattle.std.proofs.Common.{◌<◌, List, length, sym, ap, subst, ◌∙◌, option_map}
use Rattle.proto_files.proofs.Common.{AreRead, FileOf, ReadOf}
use Rattle.proto_tree.specs.File.{tree_of_file}
use Rattle.proto_files.proofs.OneReading.{same_tree}
use Rattle.proto_edit_statements.specs.FieldPlaces.{alone_in, field_in, place_of_statement}
use Rattle.proto_edit_statements.specs.Fields.{IsPlaceOfField}
use Rattle.proto_edit_statements.proofs.FieldNamed.{IsFree}
use Rattle.proto_edit_statements.proofs.FieldCases.{file_there, free_10, refused_10}
use Rattle.proto_edit_statements.proofs.FieldThere.{some_place}
use Rattle.proto_edit_statements.proofs.deleting.delete_field.Goals as goal

pub tree-tree-requires : goal.tree-tree-requires
tree-tree-requires c =
    let clean = c.files-files.ensures.clean in
    subst (λ (z : List FileOf). c.in_ok-field.field.file < length z) (sym c.files-files.ensures.files)
    (file_there c.args.linked.now.files clean.reads clean.read c.args.name.now c.in_ok-field.field (c.in_ok-field.ensures.field clean.reads clean.read))

pub returns-then-is_alone-clause-err : goal.returns-then-is_alone-clause-err
returns-then-is_alone-clause-err c =
    let files = c.args.linked.now.files in
    let reads = c.files-files.ensures.clean.reads in
    let are = c.files-files.ensures.clean.read in
    let field = c.in_ok-field.field in
    let is = c.in_ok-field.ensures.field reads are in
    let within = file_there files reads are c.args.name.now field is in
    let tree = same_tree files reads field.file (tree_of_file c.tree-tree.result.now) are within (rw c.files-files.ensures.files at c.tree-tree.ensures) in
    refused_10 files reads are c.args.name.now field is c.in_ok-field.ensures.free (ap (alone_in field.token) tree ∙ sym c.is_alone.ensures ∙ c.if-is_alone.true)

pub unreachable-requires : goal.unreachable-requires
unreachable-requires c =
    let files = c.args.linked.now.files in
    let reads = c.files-files.ensures.clean.reads in
    let are = c.files-files.ensures.clean.read in
    let field = c.in_ok-field.field in
    let is = c.in_ok-field.ensures.field reads are in
    let within = file_there files reads are c.args.name.now field is in
    some_place c.statements_are_one.ensures.there files reads are c.args.name.now field is
    (ap (λ t. option_map place_of_statement (field_in field.token t)) (same_tree files reads field.file (tree_of_file c.tree-tree.result.now) are within (rw c.files-files.ensures.files at c.tree-tree.ensures)) ∙ sym c.in_default.ensures)

pub changes_of_deletion-requires-clause-place : goal.changes_of_deletion-requires-clause-place
changes_of_deletion-requires-clause-place c =
    let field = c.in_ok-field.field in
    subst (λ (z : List FileOf). (reads : List ReadOf) → AreRead z reads → IsPlaceOfField z reads field c.in-Some.place) (sym c.files-files.ensures.files)
    (λ reads are. (
    let files = c.args.linked.now.files in
    let within = file_there files reads are c.args.name.now field (c.in_ok-field.ensures.field reads are) in
    ap (λ t. option_map place_of_statement (field_in field.token t)) (same_tree files reads field.file (tree_of_file c.tree-tree.result.now) are within (rw c.files-files.ensures.files at c.tree-tree.ensures)) ∙ sym c.in-Some.ensures))

pub changes_of_deletion-requires-clause-before : goal.changes_of_deletion-requires-clause-before
changes_of_deletion-requires-clause-before c =
    let files = c.args.linked.now.files in
    let reads = c.files-files.ensures.clean.reads in
    let are = c.files-files.ensures.clean.read in
    let field = c.in_ok-field.field in
    let is = c.in_ok-field.ensures.field reads are in
    let within = file_there files reads are c.args.name.now field is in
    let tree = same_tree files reads field.file (tree_of_file c.tree-tree.result.now) are within (rw c.files-files.ensures.files at c.tree-tree.ensures) in
    subst (λ (z : List FileOf). IsFree z c.args.name.now 11) (sym c.files-files.ensures.files)
    (free_10 files reads are c.args.name.now field is c.files-files.ensures.clean.clean c.in_ok-field.ensures.free (ap (alone_in field.token) tree ∙ sym c.is_alone.ensures ∙ c.if-is_alone.false))

pub check_values-requires-clause-before : goal.check_values-requires-clause-before
check_values-requires-clause-before c = subst (λ (z : List FileOf). IsFree z c.args.name.now 17) c.files-files.ensures.files c.in_ok-changes.ensures.free

pub returns-clause-ok : goal.returns-clause-ok
returns-clause-ok c = record {
  admissible = c.in_ok-check_fixed.ensures.free;
  changes = rw c.files-files.ensures.files at c.in_ok-changes.ensures.changes;
}
