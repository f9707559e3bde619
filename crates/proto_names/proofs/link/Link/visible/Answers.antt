use Rattle.std.proofs.lemmas.List.{get_or_past}
use Rattle.std.proofs.Common.{Bool, List, [], get_or, map, sym, ◌∙◌, ap}
use Rattle.proto_names.specs.Linking.{name_of_row, shows_text}
use Rattle.proto_names.proofs.LinkIndex.{seen_at}
use Rattle.proto_names.proofs.Linking.{shows_nothing}
use Rattle.proto_names.proofs.link.Link.visible.Goals as goal

pub returns-in-Some : goal.returns-in-Some
returns-in-Some c =
    let look_up = c.in-Some.ensures.lookup in
    let names = map name_of_row c.self.inside.parts.declarations.table.rows.items in
    c.shows.ensures
    ∙ ap (λ m. shows_text m c.args.name.now names)
    (seen_at c.args.self.now c.self.inside.parts.graph.seen.items (ap (λ l. l.seen) c.self.view_is) c.deref.result.now c.deref.ensures.value c.args.file look_up.3.0 c.in-Some.seen.now look_up.1)
    ∙ ap (λ l. shows_text (get_or c.args.self.now.seen c.args.file []) c.args.name.now l.names) c.self.view_is

pub returns-in-None : goal.returns-in-None
returns-in-None c =
    sym (shows_nothing c.args.name.now c.args.self.now.names)
    ∙ ap (λ m. shows_text m c.args.name.now c.args.self.now.names) (sym (get_or_past c.deref.result.now c.args.file [] c.in-None.ensures.lookup.3) ∙ ap (λ (z : List (List Bool)). get_or z c.args.file []) (c.deref.ensures.value ∙ ap (λ l. l.seen) c.self.view_is))
