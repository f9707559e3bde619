use Rattle.std.proofs.Common.{ℕ, List, get_or, [], Bor, option_map, refl, sym, ap, ◌∙◌}
use Rattle.proto_base.specs.Texts.{or_nothing}
use Rattle.proto_names.specs.Linking.{SymbolId}
use Rattle.proto_lint_names.specs.Readings.{meant_name, reading_of}
use Rattle.proto_lint_names.proofs.Readings.{first_is, text_by_row, text_is, text_of_row}
use Rattle.proto_lint_names.proofs.reading.LintFile.meant_name.Goals as goal

pub returns-in-Some : goal.returns-in-Some
returns-in-Some c =
    let link = c.args.self.now.link.now in
    let first = c.unwrap_or-first.ensures ∙ first_is c.args.reference.now.dot c.args.reference.now.words in
    let row = sym c.meaning.ensures ∙ ap (option_map (λ (id : SymbolId). id.row)) c.in-Some.is in
    let by_row = text_by_row link (get_or link.meant c.args.self.now.file []) c.unwrap_or-first.result in
    ap (λ (t : Bor (List ℕ)). t.now) c.unwrap_or.ensures ∙ text_is c.name_of.result _ refl ∙ ap or_nothing c.name_of.ensures
    ∙ sym (ap (λ (t : ℕ). meant_name (reading_of c.args.self.now) t) (sym first) ∙ by_row ∙ ap (text_of_row link) row)

pub returns-in-None : goal.returns-in-None
returns-in-None c =
    let link = c.args.self.now.link.now in
    let first = c.unwrap_or-first.ensures ∙ first_is c.args.reference.now.dot c.args.reference.now.words in
    let row = sym c.meaning.ensures ∙ ap (option_map (λ (id : SymbolId). id.row)) c.in-None.is in
    let by_row = text_by_row link (get_or link.meant c.args.self.now.file []) c.unwrap_or-first.result in
    sym (ap (λ (t : ℕ). meant_name (reading_of c.args.self.now) t) (sym first) ∙ by_row ∙ ap (text_of_row link) row)
