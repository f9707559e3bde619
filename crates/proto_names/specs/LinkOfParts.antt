-- The link that is made of parts.
use Rattle.std.specs.Prelude.{map}
use Rattle.proto_names.specs.Linking.{LinkOf, name_of_row}
use Rattle.proto_names.specs.declared.parts.LinkParts.{LinkParts}

-- the link of these parts
abbrev pub link_of : LinkParts → LinkOf
link_of p = record {
  names = map name_of_row p.declarations.table.rows.items;
  imports = map (λ v. v.items) p.graph.imports.items;
  rows = map (λ v. v.items) p.declarations.rows.items;
  seen = p.graph.seen.items;
  meant = map (λ v. v.items) p.resolutions.meant.items;
  references = map (λ v. v.items) p.resolutions.references.items;
}
