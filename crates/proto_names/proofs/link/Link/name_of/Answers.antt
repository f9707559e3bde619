use Rattle.std.proofs.Common.{None, Some, option_map, ◌∙◌, ap}
use Rattle.proto_names.proofs.Linking.{known}
use Rattle.proto_names.proofs.link.Link.name_of.Goals as goal

pub returns : goal.returns
returns c = ap Some c.as_str.ensures ∙ known c.self.inside.parts.declarations.table.rows.items c.args.self.now.names (ap (λ l. l.names) c.self.view_is) c.deref.result.now c.deref.ensures.value c.args.id.row (λ n. n.text) (Some c.in_ok-row.row.now) c.in_ok-row.ensures

pub returns-in_err-row : goal.returns-in_err-row
returns-in_err-row c =
    ap (option_map (λ text. text.now)) c.from_residual.ensures ∙ known c.self.inside.parts.declarations.table.rows.items c.args.self.now.names (ap (λ l. l.names) c.self.view_is) c.deref.result.now c.deref.ensures.value c.args.id.row (λ n. n.text) None c.in_err-row.ensures
