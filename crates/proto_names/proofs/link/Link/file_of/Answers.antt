use Rattle.std.proofs.Common.{get_or, None, Some, sym, ◌∙◌, ap}
use Rattle.proto_names.proofs.Linking.{own_known}
use Rattle.proto_names.proofs.NamesThere.{first_file, has_files}
use Rattle.proto_names.proofs.link.Link.file_of.Goals as goal

pub returns-clause-exact : goal.returns-clause-exact
returns-clause-exact c =
    ap Some (sym (first_file c.in_ok-row.row.now c.in_ok-row.ensures.declared))
    ∙ own_known c.self.inside.parts.declarations.table.rows.items c.args.self.now.names (ap (λ l. l.names) c.self.view_is) c.deref.result.now c.deref.ensures.value c.args.id.row (λ n. get_or n.files 0 0) (Some c.in_ok-row.row.now) c.in_ok-row.ensures.exact

pub returns-in_err-row-clause-exact : goal.returns-in_err-row-clause-exact
returns-in_err-row-clause-exact c =
    c.from_residual.ensures
    ∙ own_known c.self.inside.parts.declarations.table.rows.items c.args.self.now.names (ap (λ l. l.names) c.self.view_is) c.deref.result.now c.deref.ensures.value c.args.id.row (λ n. get_or n.files 0 0) None c.in_err-row.ensures.exact

pub returns-clause-declared : goal.returns-clause-declared
returns-clause-declared c = has_files c.args.self.now

pub returns-in_err-row-clause-declared : goal.returns-in_err-row-clause-declared
returns-in_err-row-clause-declared c = has_files c.args.self.now
