use Rattle.std.proofs.Common.{length, sym, ◌∙◌, ap}
use Rattle.std.proofs.lemmas.List.{length-map}
use Rattle.proto_names.specs.Linking.{LinkOf, name_of_row}
use Rattle.proto_names.proofs.Linking.{inner_past}
use Rattle.proto_names.proofs.link.Link.references.Goals as goal

pub returns-in-Some-clause-paired : goal.returns-in-Some-clause-paired
returns-in-Some-clause-paired c =
    ap (λ (l : LinkOf). length l.references) (sym c.self.view_is) ∙ length-map c.self.inside.parts.resolutions.references.items (λ v. v.items) ∙ c.self.invariant.1
    ∙ sym (length-map c.self.inside.parts.declarations.table.rows.items name_of_row) ∙ ap (λ (l : LinkOf). length l.names) c.self.view_is

pub returns-in-None-clause-paired : goal.returns-in-None-clause-paired
returns-in-None-clause-paired c =
    ap (λ (l : LinkOf). length l.references) (sym c.self.view_is) ∙ length-map c.self.inside.parts.resolutions.references.items (λ v. v.items) ∙ c.self.invariant.1
    ∙ sym (length-map c.self.inside.parts.declarations.table.rows.items name_of_row) ∙ ap (λ (l : LinkOf). length l.names) c.self.view_is

pub returns-in-None-clause-exact : goal.returns-in-None-clause-exact
returns-in-None-clause-exact c =
    inner_past c.self.inside.parts.resolutions.references.items c.args.self.now.references (ap (λ l. l.references) c.self.view_is) c.deref.result.now c.deref.ensures.value c.args.id.row c.in-None.ensures.lookup.3
