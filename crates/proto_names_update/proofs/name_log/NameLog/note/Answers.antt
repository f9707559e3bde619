use Rattle.std.proofs.Common.{◌≡◌, [], ◌∷◌, ◌++◌, refl, ◌∙◌, ap}
use Rattle.proto_base.specs.declared.changes.Change.{Change}
use Rattle.proto_names_update.specs.NameLogs.{standing_of}
use Rattle.proto_names_update.specs.declared.name_log.NameLog.{NameLog}
use Rattle.proto_names_update.specs.declared.name_log.Standing.{Standing}
use Rattle.proto_names_update.proofs.Undoing.{note_fits, note_noted, note_undone}
use Rattle.proto_names_update.proofs.name_log.NameLog.note.Goals.{In_ok-push}
use Rattle.proto_names_update.proofs.name_log.NameLog.note.Goals as goal

abbrev log' : In_ok-push → NameLog
log' c = record { rows = c.args.self.now.rows; words = c.args.self.now.words; changes = c.push.new.self }

changes : (c : In_ok-push) → (log' c).changes.items ≡ c.args.self.now.changes.items ++ record { place = c.args.row; was = standing_of c.index.result.now } ∷ []
changes c = c.in_ok-push.ensures.items ∙ ap (λ (z : Standing). let one : Change Standing = record { place = c.args.row; was = z } in c.args.self.now.changes.items ++ one ∷ []) c.row_standing-was.ensures

pub returns-clause-fits : goal.returns-clause-fits
returns-clause-fits c =
    let at = (goal.at.returns-clause-fits c).In_ok-push in
    note_fits at.args.self.now (log' at) at.args.table.now at.args.row at.index.result.now refl refl (changes at) at.requires.within at.index.ensures at.requires.fits

pub returns-clause-undone : goal.returns-clause-undone
returns-clause-undone c =
    let at = (goal.at.returns-clause-undone c).In_ok-push in
    note_undone at.args.self.now (log' at) at.args.table.now at.args.row at.index.result.now refl refl (changes at) at.requires.within at.index.ensures

pub returns-clause-noted : goal.returns-clause-noted
returns-clause-noted c =
    let at = (goal.at.returns-clause-noted c).In_ok-push in
    note_noted at.args.self.now (log' at) at.args.table.now at.args.row at.index.result.now refl refl (changes at) at.requires.within at.index.ensures
