use Rattle.std.proofs.Common.{◌==◌, refl, ◌∙◌, ap}
use Rattle.std.specs.List.{list_any}
use Rattle.proto_names.proofs.Linking.{inner_at, inner_past}
use Rattle.proto_names.proofs.link.Link.begins_with.Goals as goal

pub returns-in-Some : goal.returns-in-Some
returns-in-Some c =
    let look_up = c.in-Some.ensures.lookup in
    c.begins_with.ensures
    ∙ ap (list_any (λ m. m.first == c.args.key))
    (inner_at c.self.inside.parts.resolutions.meant.items c.args.self.now.meant (ap (λ l. l.meant) c.self.view_is) c.deref.result.now c.deref.ensures.value c.args.file look_up.3.0 c.in-Some.meant.now look_up.1 c.in-Some.meant.now.items refl)

pub returns-in-None : goal.returns-in-None
returns-in-None c =
    ap (list_any (λ m. m.first == c.args.key)) (inner_past c.self.inside.parts.resolutions.meant.items c.args.self.now.meant (ap (λ l. l.meant) c.self.view_is) c.deref.result.now c.deref.ensures.value c.args.file c.in-None.ensures.lookup.3)
