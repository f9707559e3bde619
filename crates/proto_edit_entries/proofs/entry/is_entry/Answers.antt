use Rattle.std.proofs.Common.{◌≡◌, ◌∙◌, sym, true, false, length, eq-eqb}
use Rattle.proto_edit_entries.proofs.EntryTests.{entry_is}
use Rattle.proto_edit_entries.proofs.entry.is_entry.Goals as goal

differ : false ≡ true → ⊥
differ z = cc

pub returns : goal.returns
returns c =
    entry_is c.args.changes.now c.are_changes.result
    (λ none. differ (sym c.if-is_empty.false ∙ c.is_empty.ensures ∙ eq-eqb (length c.args.changes.now) 0 none))
    (c.are_rising.ensures.0 c.if-not-are_rising.false) c.are_changes.ensures
