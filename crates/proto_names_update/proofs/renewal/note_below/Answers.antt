use Rattle.std.proofs.Common.{◌≡◌, ℕ, Some, None, sym, ◌∙◌, subst, arith}
use Rattle.proto_base.proofs.Common.{length-map, on_ok_weaker, same_Some}
use Rattle.proto_names_table.specs.Tables.{look}
use Rattle.proto_names_update.specs.NameLogs.{IsNoted}
use Rattle.proto_names_update.proofs.renewal.note_below.Goals as goal

differ : (row : ℕ) → None ≡ Some row → ⊥
differ row e = cc

pub note-requires-clause-within : goal.note-requires-clause-within
note-requires-clause-within c =
    let n = length-map c.args.table.now.rows.items (λ r. r.name) in
    let s = c.requires.table.forest.sound c.args.above c.args.word.now c.in-Some.row (omega (arith, c.requires.within, n)) (sym c.in-Some.ensures) in
    omega (arith, s.0, n)

pub returns-in-Some-clause-noted : goal.returns-in-Some-clause-noted
returns-in-Some-clause-noted c =
    let t = c.args.table.now in
    let log = c.note.new.self in
    let any : IsNoted log t c.in-Some.row → (row : ℕ) → look t c.args.above c.args.word.now ≡ Some row → IsNoted log t row =
    λ noted row e. subst (IsNoted log t) (same_Some c.in-Some.row row (c.in-Some.ensures ∙ e)) noted in
    on_ok_weaker c.note.result any c.note.ensures.noted

pub returns-in-None-clause-noted : goal.returns-in-None-clause-noted
returns-in-None-clause-noted c = λ row e. absurd (differ row (c.in-None.ensures ∙ e))
