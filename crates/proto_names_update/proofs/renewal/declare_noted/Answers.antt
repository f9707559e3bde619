use Rattle.std.proofs.Common.{◌∙◌}
use Rattle.proto_names_update.proofs.Renewing.{fits_either, table_either, undone_either}
use Rattle.proto_names_update.proofs.renewal.declare_noted.Goals as goal

pub returns-clause-table : goal.returns-clause-table
returns-clause-table c = table_either c.args.table.now c.declare.new.self c.declare.result c.requires.table c.declare.ensures.table c.declare.ensures.kept

pub returns-clause-fits : goal.returns-clause-fits
returns-clause-fits c =
    fits_either c.note_below.new.log c.args.table.now c.declare.new.self c.args.above c.args.word.now c.args.symbol c.note_below.ensures.fits c.requires.table c.requires.within c.requires.plain c.requires.other c.in_ok-note_below.ensures.noted
    c.declare.result c.declare.ensures.change c.declare.ensures.clash_kept c.declare.ensures.kept

pub returns-clause-undone : goal.returns-clause-undone
returns-clause-undone c =
    undone_either c.note_below.new.log c.args.table.now c.declare.new.self c.args.above c.args.word.now c.args.symbol c.note_below.ensures.fits c.requires.table c.requires.within c.requires.plain c.requires.other c.in_ok-note_below.ensures.noted
    c.added_are_cut.ensures c.declare.result c.declare.ensures.row c.declare.ensures.change c.declare.ensures.clash_kept c.declare.ensures.kept
    ∙ c.note_below.ensures.undone
