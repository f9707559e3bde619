use Rattle.std.proofs.Common.{◌≡◌, ◌≤◌, ℕ, List, [], min, length, take, arith, rules, sym, subst, ap, ◌∙◌}
use Rattle.std.proofs.lemmas.List.{take_min}
use Rattle.proto_text.specs.Lines.{column_behind, line_behind}
use Rattle.protoref_output.specs.Places.{IsCursorIn}
use Rattle.protoref_output.proofs.Cursors.{few_columns, few_lines}
use Rattle.protoref_output.proofs.place.Cursor.moved_to.Goals as goal
use Rattle.protoref_output.proofs.place.Cursor.moved_to.Goals.{then-self-end, else-self-end}

pub loop-at-init : goal.loop-at-init
loop-at-init c =
    let text : List ℕ = c.args.text.now in
    let begun : IsCursorIn text c.if-self-end.start =
    elim c.if-self-end.branch [
      | then-self-end w ↦ subst (IsCursorIn text) (sym w.start-is) (record { within = c.requires.within; line = c.requires.line; column = c.requires.column })
      | else-self-end w ↦ subst (IsCursorIn text) (sym w.start-is) (w.new-start.ensures text)
    ] in
    let before : c.if-self-end.start.offset ≤ c.min-end.result =
    elim c.if-self-end.branch [
      | then-self-end w ↦ subst (λ s. s.offset ≤ c.min-end.result) (sym w.start-is) (search rules)
      | else-self-end w ↦ let none = (w.new-start.ensures []).within in subst (λ s. s.offset ≤ c.min-end.result) (sym w.start-is) (omega (arith, none))
    ] in
    let lines = few_lines text c.if-self-end.start.offset in
    let columns = few_columns text c.if-self-end.start.offset in
    let line = begun.line in
    let column = begun.column in
    record { line = line; column = column; within = before; few_lines = omega (arith, lines, line); few_columns = omega (arith, columns, column) }

pub returns-clause-there : goal.returns-clause-there
returns-clause-there c =
    let text : List ℕ = c.args.text.now in
    let end : c.loop-at.at ≡ c.min-end.result = search rules in
    let least : c.min-end.result ≡ min c.args.offset (length text) = search rules in
    record {
      within = omega (arith, least);
      line = c.loop-at.invariant.line ∙ ap (λ n. line_behind (take n text)) end;
      column = c.loop-at.invariant.column ∙ ap (λ n. column_behind (take n text)) end;
    }

pub returns-clause-column : goal.returns-clause-column
returns-clause-column c =
    let text : List ℕ = c.args.text.now in
    let end : c.loop-at.at ≡ c.min-end.result = search rules in
    let least : c.min-end.result ≡ min c.args.offset (length text) = search rules in
    c.loop-at.invariant.column ∙ ap (λ n. column_behind (take n text)) (end ∙ least) ∙ ap column_behind (take_min c.args.offset text)
