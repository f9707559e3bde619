use Rattle.std.proofs.Common.{None, Some, ◌∙◌, ap}
use Rattle.proto_names.proofs.Linking.{known}
use Rattle.proto_names.proofs.link.Link.kind_of.Goals as goal

pub returns : goal.returns
returns c = known c.self.inside.parts.declarations.table.rows.items c.args.self.now.names (ap (λ l. l.names) c.self.view_is) c.deref.result.now c.deref.ensures.value c.args.id.row (λ n. n.kind) (Some c.in_ok-row.row.now) c.in_ok-row.ensures

pub returns-in_err-row : goal.returns-in_err-row
returns-in_err-row c = c.from_residual.ensures ∙ known c.self.inside.parts.declarations.table.rows.items c.args.self.now.names (ap (λ l. l.names) c.self.view_is) c.deref.result.now c.deref.ensures.value c.args.id.row (λ n. n.kind) None c.in_err-row.ensures
