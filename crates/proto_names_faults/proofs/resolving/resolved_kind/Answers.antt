use Rattle.std.proofs.Common.{◌≡◌, refl, sym, ◌∙◌, ap, subst}
use Rattle.proto_text.specs.Texts.{word_at}
use Rattle.proto_names_table.specs.Filling.{number_above}
use Rattle.proto_names.specs.Referring.{reference_by}
use Rattle.proto_names_faults.specs.Common.{IsKindOf}
use Rattle.proto_names_faults.proofs.ResolvedKinds.{asked_in, kind_is}
use Rattle.proto_names_faults.proofs.resolving.resolved_kind.Goals.{in-Outermost, in-Below}
use Rattle.proto_names_faults.proofs.resolving.resolved_kind.Goals as goal

pub returns : goal.returns
returns c = λ w names read. (
    let lookup = c.args.lookup.now in
    let r = reference_by lookup.file names (word_at c.args.words.now) c.args.used.now in
    -- the number of the scope
    let scope : c.match-used.scope ≡ number_above lookup.rows.now c.args.used.now.scope = elim c.match-used.branch [
      | in-Outermost b ↦ b.scope-is ∙ ap (number_above lookup.rows.now) (sym b.in-Outermost.is)
      | in-Below b ↦ b.scope-is ∙ ap (number_above lookup.rows.now) (sym b.in-Below.is)
    ] in
    let asked = asked_in lookup.table.now lookup.seen.now lookup.rows.now names lookup.file w read (word_at c.args.words.now) c.args.used.now c.requires.scope c.match-used.scope scope in
    let is = c.resolved_row-row.ensures.meant w r asked refl refl refl in
    subst (IsKindOf w r) (sym c.kind_at_row.ensures) (kind_is lookup.table.now c.requires.table w read.index r c.resolved_row-row.result is))
