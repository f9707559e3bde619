use Rattle.std.proofs.Common.{◌<◌, length, subst, sym}
use Rattle.proto_edit_rename.specs.declared.file_occurrences.FileOccurrences.{FileOccurrences}
use Rattle.proto_answers.proofs.LocationLists.{file_more}
use Rattle.proto_answers.proofs.references.all_locations.Goals as goal

pub add_locations-requires : goal.add_locations-requires
add_locations-requires c =
    subst (λ (o : FileOccurrences). o.file < length c.args.files.now) (sym c.occurrences-item.is) (c.requires c.loop-occurrences.occurrences-index c.occurrences-item.result c.loop-occurrences-test.true)

pub loop-occurrences-preserved : goal.loop-occurrences-preserved
loop-occurrences-preserved c = λ reads are.
    file_more c.args.encoding c.args.files.now reads c.args.left_out c.args.found.now c.loop-occurrences.occurrences-index c.occurrences-item.result c.loop-occurrences-test.true c.occurrences-item.is c.loop-occurrences.all.items c.add_locations.new.all.items
    (c.loop-occurrences.invariant reads are) (c.in_ok-add_locations.ensures reads are)
