use Rattle.std.proofs.Common.{get_or, refl}
use Rattle.proto_names.specs.Linking.{RefId}
use Rattle.proto_edit_rename.proofs.ChangedMarks.{all_references, references_turn}
use Rattle.proto_edit_rename.proofs.changed_files.mark_references.Goals as goal

abbrev none : RefId
none = record { file = 0; token = 0 }

pub loop-reference-preserved : goal.loop-reference-preserved
loop-reference-preserved c =
    let references = c.args.references.now in
    let i = c.loop-reference.reference-index in
    references_turn references i (get_or references i none) none c.loop-reference.changed _ _ c.loop-reference-test.true refl c.insert.ensures c.loop-reference.invariant

pub returns : goal.returns
returns c = all_references c.args.references.now c.loop-reference.reference-index _ _ c.loop-reference-test.false c.loop-reference.invariant
