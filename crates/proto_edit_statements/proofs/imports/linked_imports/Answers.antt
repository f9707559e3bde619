use Rattle.std.proofs.Common.{◌∙◌, ap}
use Rattle.proto_names.specs.Linking.{LinkOf}
use Rattle.proto_edit_statements.proofs.LinkedImports.{imports_of_link}
use Rattle.proto_edit_statements.proofs.imports.linked_imports.Goals as goal

pub returns : goal.returns
returns c =
    let clean = c.link.ensures.clean in
    imports_of_link c.args.linked.now.files c.args.linked.now.link clean.link clean.reads clean.read c.imports.result.now (c.imports.ensures ∙ ap (λ (z : LinkOf). z.imports) c.link.ensures.link)
