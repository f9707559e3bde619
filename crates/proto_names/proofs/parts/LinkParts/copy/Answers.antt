use Rattle.proto_names.proofs.Copies.{names_alike}
use Rattle.proto_names.proofs.parts.LinkParts.copy.Goals as goal

pub returns-clause-link : goal.returns-clause-link
returns-clause-link c =
    let names = names_alike c.args.self.now.declarations.table c.in_ok-declarations.declarations.table c.in_ok-declarations.ensures.alike in
    let rows = c.in_ok-declarations.ensures.rows in
    let imports = c.in_ok-graph.ensures.imports in
    let seen = c.in_ok-graph.ensures.seen in
    let meant = c.in_ok-resolutions.ensures.meant in
    let references = c.in_ok-resolutions.ensures.references in
    λ i. record { names = names i; imports = imports i; rows = rows i; seen = seen i; meant = meant i; references = references i }
