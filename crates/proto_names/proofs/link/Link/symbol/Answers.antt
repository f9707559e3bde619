use Rattle.std.proofs.Common.{◌≢◌, ℕ, Some, sym, ◌∙◌, ap}
use Rattle.std.proofs.lemmas.Option.{none-some}
use Rattle.proto_names.specs.Linking.{name_text}
use Rattle.proto_names.proofs.Linking.{text_forgotten, text_none, text_once}
use Rattle.proto_names.proofs.NamesThere.{text_from}
use Rattle.proto_names_table.specs.declared.table.Row.{Row}
use Rattle.proto_names_table.proofs.Resolved.{if_none}
use Rattle.proto_names.proofs.link.Link.symbol.Goals as goal

pub returns-in_err-row-clause-none : goal.returns-in_err-row-clause-none
returns-in_err-row-clause-none c =
    if_none c.from_residual.result ((row : ℕ) → name_text c.args.self.now row ≢ Some c.args.name.now)
    (text_none c.self.inside.parts.declarations.table c.self.invariant.0 c.args.self.now (ap (λ l. l.names) c.self.view_is) c.args.name.now (λ k l e. none-some k (sym c.in_err-row.was ∙ c.index_of_name.ensures.complete k l e)))

pub returns-in_err-row-clause-once : goal.returns-in_err-row-clause-once
returns-in_err-row-clause-once c = text_once c.self.inside.parts.declarations.table c.self.invariant.0 c.args.self.now (ap (λ l. l.names) c.self.view_is)

pub returns-then-is_declared-clause-some : goal.returns-then-is_declared-clause-some
returns-then-is_declared-clause-some c =
    text_from c.self.inside.parts.declarations.table c.args.self.now (ap (λ l. l.names) c.self.view_is) c.in_ok-row.row c.index.result.now c.args.name.now c.in_ok-row.ensures.sound.0 (ap (λ (r : Row). r.is_declared) (sym c.index.ensures) ∙ sym c.is_declared.ensures ∙ c.if-is_declared.true) c.in_ok-row.ensures.sound.1

pub returns-then-is_declared-clause-once : goal.returns-then-is_declared-clause-once
returns-then-is_declared-clause-once c = text_once c.self.inside.parts.declarations.table c.self.invariant.0 c.args.self.now (ap (λ l. l.names) c.self.view_is)

pub returns-else-is_declared-clause-none : goal.returns-else-is_declared-clause-none
returns-else-is_declared-clause-none c =
    text_forgotten c.self.inside.parts.declarations.table c.self.invariant.0 c.args.self.now (ap (λ l. l.names) c.self.view_is) c.args.name.now c.in_ok-row.row c.index.result.now c.in_ok-row.ensures.sound.0 c.in_ok-row.ensures.sound.1 (ap (λ (r : Row). r.is_declared) (sym c.index.ensures) ∙ sym c.is_declared.ensures ∙ c.if-is_declared.false)

pub returns-else-is_declared-clause-once : goal.returns-else-is_declared-clause-once
returns-else-is_declared-clause-once c = text_once c.self.inside.parts.declarations.table c.self.invariant.0 c.args.self.now (ap (λ l. l.names) c.self.view_is)
